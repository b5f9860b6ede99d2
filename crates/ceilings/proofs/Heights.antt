-- The ceilings of the bytes of a system are the system's.
use Rattle.std.proofs.Common.{◌≡◌, ℕ, List, [], ◌∷◌, length, replicate, refl}
use Rattle.instruction.specs.declared.sections.Section.{Section}
use Rattle.instruction.specs.declared.sections.Section.TheVariants.{Clocks, Start, Invariant, Transition, Urgent}
use Rattle.formula.specs.Formulas.{Formula}
use Rattle.formula.specs.Heights.{height}
use Rattle.formula.proofs.Scanned.{measured}
use Rattle.model.specs.declared.layout.Span.{Span}
use Rattle.model.specs.Systems.{System, Sound, Stand, Fits, Records}
use Rattle.model.specs.Reading.{Layout}
use Rattle.model.specs.Promise.{laid, Holds, HoldAll}
use Rattle.model.proofs.Lies.{lies}
use Rattle.model.proofs.Reaches.{stand-parts}
use Rattle.ceilings.specs.Ceilings.{tallest, ceiling, height_at, peak, ceiling_at, Ceilings}

module _ (bs : List ℕ) (y : Layout) (c : ℕ) where
  height-is : (s : Section) (p : Span) (f : Formula) → Fits y.counts y.clocks s f → Holds bs p f → height_at bs y c p ≡ height c f
  height-is s p f k h = (measured y.counts y.clocks c _ _ refl).means s f (record { bytes = h; allowed = k.allowed; shallow = k.shallow })

  peak-is : (ss : List Section) (ps : List Span) (fs : List Formula) → Stand y.counts y.clocks ss fs → HoldAll bs ps fs → peak bs y c ps ≡ tallest c fs
  unfolding peak tallest
  peak-is [] [] [] k h = refl
  peak-is (s ∷ ss) [] [] k h = absurd k
  peak-is [] (p ∷ ps) [] k h = absurd h
  peak-is (s ∷ ss) (p ∷ ps) [] k h = absurd k
  peak-is [] [] (f ∷ fs) k h = absurd k
  peak-is (s ∷ ss) [] (f ∷ fs) k h = absurd h
  peak-is [] (p ∷ ps) (f ∷ fs) k h = absurd k
  peak-is (s ∷ ss) (p ∷ ps) (f ∷ fs) k h = rw (height-is s p f k.0 h.0, peak-is ss ps fs k.1 h.1)

ceiling-is : (bs : List ℕ) (y : Layout) (m : System) (c : ℕ) → Sound m → Records m bs → y ≡ laid m → ceiling_at bs y c ≡ ceiling m c
ceiling-is bs y m c sound r same =
    let n : ℕ = length m.resets in
    let x = stand-parts m.counts n (Start ∷ Invariant ∷ Transition ∷ Urgent ∷ []) m.resets (m.start ∷ m.invariant ∷ m.transition ∷ m.urgent ∷ []) sound.stand in
    let at = lies bs m sound r in
    rw same (peak-is bs (laid m) c (Invariant ∷ Transition ∷ replicate n Clocks) ((laid m).invariant ∷ (laid m).transition ∷ (laid m).resets) (m.invariant ∷ m.transition ∷ m.resets) (x.1.1.0, (x.1.1.1.0, x.0)) (at.invariant, (at.transition, at.resets)))

-- the law of the ceilings from their answer
pub told : (bs : List ℕ) (y : Layout) (xs : List ℕ) → xs ≡ ceiling_at bs y 0 ∷ ceiling_at bs y 1 ∷ ceiling_at bs y 2 ∷ ceiling_at bs y 3 ∷ [] → Ceilings bs y xs
told bs y xs e =
    record { answer = e; means = λ m sound r same. let is : (c : ℕ) → ceiling_at bs y c ≡ ceiling m c = λ c. ceiling-is bs y m c sound r same in rw (is 0, is 1, is 2, is 3) at e }
