-- What the bytes of a sound system say is what its formulas say.
use Rattle.std.proofs.Common.{◌≡◌, ℕ, ◌<◌, ◌≤◌, Bool, true, false, cond, ltb, List, [], ◌∷◌, length, get_or, take, drop, replicate, sym, refl, ap, ◌∙◌, arith}
use mathlib.Core.Path.{fun_ext}
use Rattle.std.proofs.lemmas.List.{get_or-take}
use Rattle.std.proofs.lemmas.Bool.{ltb-true, ltb-false}
use Rattle.instruction.specs.declared.sections.Section.{Section}
use Rattle.instruction.specs.declared.sections.Section.TheVariants.{Clocks, Start, Invariant, Transition, Urgent, Question}
use Rattle.formula.specs.Formulas.{Formula, Writes}
use Rattle.judging.specs.Truth.{View, holds}
use Rattle.judging.specs.Judging.{judged}
use Rattle.judging.proofs.Judged.{means}
use Rattle.model.specs.declared.layout.Span.{Span}
use Rattle.model.specs.declared.layout.Model.{Model}
use Rattle.model.specs.declared.layout.Role.TheVariants.{Reset}
use Rattle.model.specs.Systems.{System, Sound, Stand, Fits, Records}
use Rattle.model.specs.Reading.{Layout, span, layout}
use Rattle.model.specs.Promise.{laid, Holds, HoldAll}
use Rattle.model.proofs.Lies.{lies}
use Rattle.model.proofs.Reaches.{stand-parts}
use Rattle.tables.specs.Tables.{Table, reset_of, table_of, says_of, table_in}

pub asks : (ns : List ℕ) (n : ℕ) (q : List ℕ) (f : Formula) (w : View) → Writes ns n Question q f → judged ns n w 0 0 q ≡ holds w f
asks ns n q f w h = means ns n w Question q f h

pub none-past : (fs : List Formula) (c : ℕ) (v : View) → length fs ≤ c → reset_of fs c v ≡ false
unfolding reset_of
none-past [] c v h = refl
none-past (f ∷ fs) ℕ.zero v h = absurd (omega arith)
none-past (f ∷ fs) (ℕ.suc c) v h = none-past fs c v (omega arith)

module _ (bs : List ℕ) (y : Layout) where
  -- what the bytes at a span, and at the span of a clock, say
  abbrev at : Span → View → Bool
  at p v = judged y.counts y.clocks v 0 0 (take p.len (drop p.at bs))

  abbrev reset-at : ℕ → View → Bool
  reset-at c v = cond (ltb c y.clocks) (at (get_or y.resets c (span 0 0)) v) false

  abbrev table : Table
  table =
      record { counts = y.counts; start = at y.start; invariant = at y.invariant; transition = at y.transition; urgent = at y.urgent; reset = reset-at }

  at-is : (s : Section) (p : Span) (f : Formula) (v : View) → Fits y.counts y.clocks s f → Holds bs p f → at p v ≡ holds v f
  at-is s p f v k h = means y.counts y.clocks v s _ f (record { bytes = h; allowed = k.allowed; shallow = k.shallow })

  nth-is : (ps : List Span) (fs : List Formula) (c : ℕ) (v : View) → Stand y.counts y.clocks (replicate (length fs) Clocks) fs → HoldAll bs ps fs → c < length fs → at (get_or ps c (span 0 0)) v ≡ reset_of fs c v
  unfolding reset_of
  nth-is ps [] c v k h l = absurd (omega arith)
  nth-is [] (f ∷ fs) c v k h l = absurd h
  nth-is (p ∷ ps) (f ∷ fs) ℕ.zero v k h l = at-is Clocks p f v k.0 h.0
  nth-is (p ∷ ps) (f ∷ fs) (ℕ.suc c) v k h l = nth-is ps fs c v k.1 h.1 (omega arith)

  reset-is : (fs : List Formula) (c : ℕ) (v : View) → y.clocks ≡ length fs → Stand y.counts y.clocks (replicate (length fs) Clocks) fs → HoldAll bs y.resets fs → reset-at c v ≡ reset_of fs c v
  reset-is fs c v e k h = go (ltb c y.clocks) refl
    where
      go : (b : Bool) → ltb c y.clocks ≡ b → reset-at c v ≡ reset_of fs c v
      go true t = rw t (nth-is y.resets fs c v k h (omega (arith, ltb-true c y.clocks t)))
      go false t = rw t (sym (none-past fs c v (omega (arith, ltb-false c y.clocks t))))

module _ (bs : List ℕ) (m : Model) where
  reset-in : (c : ℕ) (v : View) → says_of bs m (Reset c) v ≡ reset-at bs (layout m) c v
  reset-in c v = go (ltb c m.sizes.clocks) refl
    where
      go : (b : Bool) → ltb c m.sizes.clocks ≡ b → says_of bs m (Reset c) v ≡ reset-at bs (layout m) c v
      go true e = simp (e, get_or-take m.sizes.clocks m.resets c (span 0 0) (ltb-true c m.sizes.clocks e))
      go false e = simp e

  -- a model's table is that of its layout
  by_layout : table_in bs m ≡ table bs (layout m)
  by_layout =
      let t : Table = table_in bs m in
      let e : t.reset ≡ reset-at bs (layout m) = fun_ext (λ c. fun_ext (reset-in c)) in
      λ i. record { counts = t.counts; start = t.start; invariant = t.invariant; transition = t.transition; urgent = t.urgent; reset = e i }

-- the table at a system's layout is the system's
laid-is : (bs : List ℕ) (k : System) → Sound k → Records k bs → table bs (laid k) ≡ table_of k
laid-is bs k sound r =
    let x = stand-parts k.counts (length k.resets) (Start ∷ Invariant ∷ Transition ∷ Urgent ∷ []) k.resets (k.start ∷ k.invariant ∷ k.transition ∷ k.urgent ∷ []) sound.stand in
    let l = lies bs k sound r in
    let a : (table bs (laid k)).start ≡ (table_of k).start = fun_ext (λ v. at-is bs (laid k) Start (laid k).start k.start v x.1.0 l.start) in
    let b : (table bs (laid k)).invariant ≡ (table_of k).invariant = fun_ext (λ v. at-is bs (laid k) Invariant (laid k).invariant k.invariant v x.1.1.0 l.invariant) in
    let c : (table bs (laid k)).transition ≡ (table_of k).transition = fun_ext (λ v. at-is bs (laid k) Transition (laid k).transition k.transition v x.1.1.1.0 l.transition) in
    let d : (table bs (laid k)).urgent ≡ (table_of k).urgent = fun_ext (λ v. at-is bs (laid k) Urgent (laid k).urgent k.urgent v x.1.1.1.1.0 l.urgent) in
    let e : (table bs (laid k)).reset ≡ (table_of k).reset = fun_ext (λ i. fun_ext (λ v. reset-is bs (laid k) k.resets i v refl x.0 l.resets)) in
    λ i. record { counts = k.counts; start = a i; invariant = b i; transition = c i; urgent = d i; reset = e i }

pub in-system : (bs : List ℕ) (m : Model) (k : System) → Sound k → Records k bs → layout m ≡ laid k → table_in bs m ≡ table_of k
in-system bs m k sound r same = by_layout bs m ∙ ap (table bs) same ∙ laid-is bs k sound r

-- a clock that is not declared is never reset
pub undeclared : (bs : List ℕ) (m : Model) (c : ℕ) (v : View) → m.sizes.clocks ≤ c → says_of bs m (Reset c) v ≡ false
undeclared bs m c v h = go (ltb c m.sizes.clocks) refl
  where
    go : (b : Bool) → ltb c m.sizes.clocks ≡ b → says_of bs m (Reset c) v ≡ false
    go true e = absurd (omega (arith, ltb-true c m.sizes.clocks e))
    go false e = simp e
