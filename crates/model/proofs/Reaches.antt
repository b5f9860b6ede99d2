-- The writing of a sound system is accepted, and what is handed back is that system's layout.
use Rattle.std.proofs.Common.{◌≡◌, ℕ, ◌+◌, List, [], ◌∷◌, ◌++◌, length, drop, replicate, Ok, Result, sym, refl, ap, ◌∙◌, append_assoc, append-nil, arith}
use Rattle.std.proofs.lemmas.List.{length-append}
use Rattle.instruction.specs.declared.faults.Fault.{Fault}
use Rattle.instruction.specs.declared.sections.Section.{Section}
use Rattle.instruction.specs.declared.sections.Section.TheVariants.{Clocks, Start, Invariant, Transition, Urgent}
use Rattle.formula.specs.Formulas.{Formula, written}
use Rattle.instruction.specs.Reader.{and_then}
use Rattle.model.specs.declared.layout.Span.{Span}
use Rattle.model.specs.Systems.{System, Sound, Records, Stand, Row, none, more}
use Rattle.model.specs.Reading.{Layout, span, cut, resetting, finish, reading}
use Rattle.model.specs.Promise.{spans, past, laid}
use Rattle.model.proofs.Formulas.{cut-through}
use Rattle.sizes.specs.Reading.{sizing}
use Rattle.sizes.proofs.Sizing.{sizing-through, behind-front}

-- the front of a row, and its end, behind some reset formulas
record Parted (rs fs : List Formula) (row : List ℕ) : Type 0 where
  pub front : List ℕ
  pub back : List ℕ
  pub first : Row rs front
  pub second : Row fs back
  pub bytes : row ≡ front ++ back

parted : (rs fs : List Formula) {row : List ℕ} → Row (rs ++ fs) row → Parted rs fs row
parted [] fs {row} r = record { front = []; back = row; first = none; second = r; bytes = refl }
parted (f ∷ rs) fs (more h l g gs bs c r) =
    let p = parted rs fs r in
    record { front = h ∷ l ∷ (written f ++ p.front); back = p.back; first = more h l f rs p.front c p.first; second = p.second; bytes = ap (λ t. h ∷ l ∷ (written f ++ t)) p.bytes ∙ ap (λ t. h ∷ l ∷ t) (sym (append_assoc (written f) p.front p.back)) }

-- the formulas of the clocks stand apart from those behind them
pub stand-parts : (ns : List ℕ) (n : ℕ) (ss : List Section) (rs fs : List Formula) → Stand ns n (replicate (length rs) Clocks ++ ss) (rs ++ fs) → Stand ns n (replicate (length rs) Clocks) rs × Stand ns n ss fs
stand-parts ns n ss [] fs h = (tt, h)
stand-parts ns n ss (r ∷ rs) fs h = let p = stand-parts ns n ss rs fs h.1 in ((h.0, p.0), p.1)

module _ (ns : List ℕ) (n end : ℕ) where
  resets-through : (rs : List Formula) {front : List ℕ} (at : ℕ) (ps : List Span) (rest : List ℕ) → Row rs front → Stand ns n (replicate (length rs) Clocks) rs → end ≡ at + length (front ++ rest) → resetting ns n end (length rs) ps (front ++ rest) ≡ Ok (ps ++ spans at rs, rest)
  unfolding resetting spans
  resets-through [] at ps rest none h e = ap (λ t. Ok (t, rest)) (sym (append-nil ps))
  resets-through (f ∷ rs) at ps rest (more hi lo g gs bs c r) h e =
      let same : (written f ++ bs) ++ rest ≡ written f ++ (bs ++ rest) = append_assoc (written f) bs rest in
      let long : end ≡ at + 2 + length (written f ++ (bs ++ rest)) = omega (arith, ap length same) in
      let cut-is : cut ns n end Clocks (hi ∷ lo ∷ ((written f ++ bs) ++ rest)) ≡ Ok (span (at + 2) (length (written f)), bs ++ rest) = ap (λ t. cut ns n end Clocks (hi ∷ lo ∷ t)) same ∙ cut-through ns n end Clocks f hi lo at (bs ++ rest) h.0 c long in
      let next : end ≡ at + 2 + length (written f) + length (bs ++ rest) = omega (arith, length-append (written f) (bs ++ rest)) in
      simp cut-is (resets-through rs (at + 2 + length (written f)) (ps ++ (span (at + 2) (length (written f)) ∷ [])) rest r h.1 next ∙ ap (λ t. Ok (t, rest)) (append_assoc ps (span (at + 2) (length (written f)) ∷ []) (spans (at + 2 + length (written f)) rs)))

past_row : (fs : List Formula) {row : List ℕ} (at : ℕ) → Row fs row → past at fs ≡ at + length row
unfolding past
past_row [] at none = omega arith
past_row (f ∷ fs) at (more h l g gs bs c r) = past_row fs (at + 2 + length (written f)) r ∙ omega (arith, length-append (written f) bs)

-- the four formulas behind the resets
module _ (ns : List ℕ) (n end : ℕ) where
  abbrev ending : List Span → List ℕ → Result Layout Fault
  ending qs left =
      and_then (cut ns n end Start left) (λ a.
      and_then (cut ns n end Invariant a.1) (λ b.
      and_then (cut ns n end Transition b.1) (λ c.
      and_then (cut ns n end Urgent c.1) (λ d.
      finish (record { counts = ns; clocks = n; resets = qs; start = a.0; invariant = b.0; transition = c.0; urgent = d.0 }) end d.1))))

  abbrev placed : List Span → ℕ → Formula → Formula → Formula → Formula → Layout
  placed qs a f g h k =
      let b : ℕ = a + 2 + length (written f) in
      let c : ℕ = b + 2 + length (written g) in
      let d : ℕ = c + 2 + length (written h) in
      record { counts = ns; clocks = n; resets = qs; start = span (a + 2) (length (written f)); invariant = span (b + 2) (length (written g)); transition = span (c + 2) (length (written h)); urgent = span (d + 2) (length (written k)) }

  four-through : (qs : List Span) (f g h k : Formula) {back : List ℕ} (at : ℕ) → Row (f ∷ g ∷ h ∷ k ∷ []) back → Stand ns n (Start ∷ Invariant ∷ Transition ∷ Urgent ∷ []) (f ∷ g ∷ h ∷ k ∷ []) → end ≡ at + length back → ending qs back ≡ Ok (placed qs at f g h k)
  four-through qs f g h k at (more h1 l1 f1 fs1 _ c1 (more h2 l2 f2 fs2 _ c2 (more h3 l3 f3 fs3 _ c3 (more h4 l4 f4 fs4 _ c4 none)))) s e =
      let b3 : List ℕ = h4 ∷ l4 ∷ (written k ++ []) in
      let b2 : List ℕ = h3 ∷ l3 ∷ (written h ++ (h4 ∷ l4 ∷ (written k ++ []))) in
      let b1 : List ℕ = h2 ∷ l2 ∷ (written g ++ (h3 ∷ l3 ∷ (written h ++ (h4 ∷ l4 ∷ (written k ++ []))))) in
      let n1 = length-append (written f) b1 in
      let n2 = length-append (written g) b2 in
      let n3 = length-append (written h) b3 in
      let n4 = length-append (written k) [] in
      let e1 = cut-through ns n end Start f h1 l1 at b1 s.0 c1 (omega arith) in
      let e2 = cut-through ns n end Invariant g h2 l2 (at + 2 + length (written f)) b2 s.1.0 c2 (omega arith) in
      let e3 = cut-through ns n end Transition h h3 l3 (at + 2 + length (written f) + 2 + length (written g)) b3 s.1.1.0 c3 (omega arith) in
      let e4 = cut-through ns n end Urgent k h4 l4 (at + 2 + length (written f) + 2 + length (written g) + 2 + length (written h)) [] s.1.1.1.0 c4 (omega arith) in
      simp (e1, e2, e3, e4)

pub reading-through : (m : System) (bs : List ℕ) → Sound m → Records m bs → reading bs ≡ Ok (laid m)
reading-through m bs sound records =
    let ns : List ℕ = m.counts in
    let n : ℕ = length m.resets in
    let p = parted m.resets (m.start ∷ m.invariant ∷ m.transition ∷ m.urgent ∷ []) records.rows in
    let s = stand-parts m.counts (length m.resets) (Start ∷ Invariant ∷ Transition ∷ Urgent ∷ []) m.resets (m.start ∷ m.invariant ∷ m.transition ∷ m.urgent ∷ []) sound.stand in
    let size : length bs ≡ 2 + length m.counts + length (p.front ++ p.back) = omega (arith, ap length records.bytes, length-append m.counts (length m.resets ∷ records.row), ap length p.bytes) in
    let sized : sizing bs ≡ Ok (m.counts, length m.resets) = ap sizing records.bytes ∙ sizing-through m.counts records.row (length m.resets) sound.variables sound.countable sound.clocks in
    let left : drop (2 + length m.counts) bs ≡ p.front ++ p.back = ap (drop (2 + length m.counts)) records.bytes ∙ behind-front m.counts records.row (length m.resets) ∙ p.bytes in
    let r = resets-through m.counts (length m.resets) (length bs) m.resets (2 + length m.counts) [] p.back p.first s.0 size in
    let at : past (2 + length m.counts) m.resets ≡ 2 + length m.counts + length p.front = past_row m.resets (2 + length m.counts) p.first in
    let more-size : length bs ≡ past (2 + length m.counts) m.resets + length p.back = omega (arith, length-append p.front p.back) in
    let f = four-through m.counts (length m.resets) (length bs) (spans (2 + length m.counts) m.resets) m.start m.invariant m.transition m.urgent (past (2 + length m.counts) m.resets) p.second s.1 more-size in
    simp (sized, left, r) f
