-- A formula that may stand there is accepted.
use Rattle.std.proofs.Common.{◌≡◌, ℕ, ◌+◌, ◌-◌, ◌≤◌, List, [], ◌∷◌, ◌++◌, length, get_or, Ok, sym, ap, ◌∙◌, append_assoc, append-nil, arith}
use Rattle.std.proofs.lemmas.Bool.{lt-ltb, le-leb}
use Rattle.instruction.specs.declared.instructions.Compare.TheVariants.{Less, AtMost, Exactly, AtLeast, More}
use Rattle.instruction.specs.declared.sections.Section.{Section}
use Rattle.formula.specs.Formulas.{Formula, is, becomes, stays, clock, always, not, and, or, written, depth, Allowed, Writes}
use Rattle.instruction.specs.Marks.{HasNext, HasClocks}
use Rattle.instruction.specs.Reader.{next_part, clock_part}
use Rattle.formula.specs.Reader.{walk}

next-is : (s : Section) → HasNext s → (at : ℕ) → next_part s at ≡ Ok tt
next-is s h at = simp h

clock-is : (s : Section) → HasClocks s → (at : ℕ) → clock_part s at ≡ Ok tt
clock-is s h at = simp h

module _ (ns : List ℕ) (n : ℕ) (s : Section) (end : ℕ) where
  pub through : (f : Formula) (w : ℕ) (rest : List ℕ) → Allowed s ns n f → w + depth f ≤ 32 → walk ns n s end 0 w (written f ++ rest) ≡ walk ns n s end 0 (w + 1) rest
  unfolding walk written depth Allowed
  through (is i k) w rest p h = simp (lt-ltb i (length ns) p.0, lt-ltb k (get_or ns i 0) p.1, lt-ltb w 32 (omega arith))
  through (becomes i k) w rest p h = simp (next-is s p.0, lt-ltb i (length ns) p.1, lt-ltb k (get_or ns i 0) p.2, lt-ltb w 32 (omega arith))
  through (stays i) w rest p h = simp (next-is s p.0, lt-ltb i (length ns) p.1, lt-ltb w 32 (omega arith))
  through (clock Less c j) w rest p h = simp (clock-is s p.0, lt-ltb c n p.1, le-leb j 250 p.2, lt-ltb w 32 (omega arith))
  through (clock AtMost c j) w rest p h = simp (clock-is s p.0, lt-ltb c n p.1, le-leb j 250 p.2, lt-ltb w 32 (omega arith))
  through (clock Exactly c j) w rest p h = simp (clock-is s p.0, lt-ltb c n p.1, le-leb j 250 p.2, lt-ltb w 32 (omega arith))
  through (clock AtLeast c j) w rest p h = simp (clock-is s p.0, lt-ltb c n p.1, le-leb j 250 p.2, lt-ltb w 32 (omega arith))
  through (clock More c j) w rest p h = simp (clock-is s p.0, lt-ltb c n p.1, le-leb j 250 p.2, lt-ltb w 32 (omega arith))
  through always w rest p h = simp (lt-ltb w 32 (omega arith))
  through (not f) w rest p h =
      let e : walk ns n s end 0 (w + 1) (33 ∷ rest) ≡ walk ns n s end 0 (w + 1) rest = simp (le-leb 1 (w + 1) (omega arith)) in
      simp append_assoc (through f w (33 ∷ rest) p h ∙ e)
  through (and f g) w rest p h =
      let back : w + 1 + 1 - 1 ≡ w + 1 = omega arith in
      let e : walk ns n s end 0 (w + 1 + 1) (38 ∷ rest) ≡ walk ns n s end 0 (w + 1) rest = simp (le-leb 2 (w + 1 + 1) (omega arith), back) in
      simp append_assoc (through f w (written g ++ (38 ∷ rest)) p.0 (omega arith) ∙ through g (w + 1) (38 ∷ rest) p.1 (omega arith) ∙ e)
  through (or f g) w rest p h =
      let back : w + 1 + 1 - 1 ≡ w + 1 = omega arith in
      let e : walk ns n s end 0 (w + 1 + 1) (124 ∷ rest) ≡ walk ns n s end 0 (w + 1) rest = simp (le-leb 2 (w + 1 + 1) (omega arith), back) in
      simp append_assoc (through f w (written g ++ (124 ∷ rest)) p.0 (omega arith) ∙ through g (w + 1) (124 ∷ rest) p.1 (omega arith) ∙ e)

  pub accepted : (bs : List ℕ) (f : Formula) → Writes ns n s bs f → walk ns n s end 0 0 bs ≡ Ok tt
  unfolding walk
  accepted bs f h = ap (λ l. walk ns n s end 0 0 l) (h.bytes ∙ sym (append-nil (written f))) ∙ through f 0 [] h.allowed (omega (arith, h.shallow))
