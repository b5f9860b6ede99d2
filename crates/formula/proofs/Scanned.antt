-- One turn of the scan for a clock's constants, and what it makes of a formula.
use Rattle.std.proofs.Common.{◌≡◌, ℕ, ◌-◌, ◌<◌, ◌≤◌, max, List, [], ◌∷◌, ◌++◌, length, get_or, drop, Ok, Err, sym, refl, ap, ◌∙◌, subst, append_assoc, append-nil, arith}
use Rattle.std.proofs.lemmas.Bool.{lt-ltb, le-leb}
use Rattle.instruction.specs.declared.faults.Fault.{Fault}
use Rattle.instruction.specs.declared.instructions.Compare.TheVariants.{Less, AtMost, Exactly, AtLeast, More}
use Rattle.instruction.specs.declared.instructions.Instruction.{Instruction}
use Rattle.instruction.specs.declared.sections.Section.{Section}
use Rattle.instruction.specs.declared.sections.Section.TheVariants.{Transition}
use Rattle.formula.specs.Formulas.{Formula, is, becomes, stays, clock, always, not, and, or, written, Allowed, Writes}
use Rattle.instruction.specs.Reader.{instruction, width}
use Rattle.formula.specs.Heights.{height, constant_of, scanned, Heights}

module _ (ns : List ℕ) (n c : ℕ) where
  skip : (k h : ℕ) (bs : List ℕ) → scanned ns n c k h bs ≡ scanned ns n c 0 h (drop k bs)
  unfolding scanned
  skip ℕ.zero h bs = refl
  skip (ℕ.suc k) h [] = refl
  skip (ℕ.suc k) h (b ∷ bs) = skip k h bs

  pub turn : (h at : ℕ) (op : Instruction) (bs : List ℕ) → at ≡ 0 → 0 < length bs → 1 ≤ width op → instruction ns n Transition at bs ≡ Ok op → scanned ns n c 0 h bs ≡ scanned ns n c 0 (max h (constant_of c op)) (drop (width op) bs)
  unfolding scanned
  turn h at op [] p some pos e = absurd (omega arith)
  turn h at op (b ∷ bs) p some pos e =
      let back : ℕ.suc (width op - 1) ≡ width op = omega arith in
      let i : instruction ns n Transition 0 (b ∷ bs) ≡ Ok op = subst (λ a. instruction ns n Transition a (b ∷ bs) ≡ Ok op) p e in
      simp i (skip (width op - 1) (max h (constant_of c op)) bs ∙ ap (λ k. scanned ns n c 0 (max h (constant_of c op)) (drop k (b ∷ bs))) back)

  pub no-op : (h at : ℕ) (x : Fault) (bs : List ℕ) → at ≡ 0 → 0 < length bs → instruction ns n Transition at bs ≡ Err x → scanned ns n c 0 h bs ≡ h
  unfolding scanned
  no-op h at x [] p some e = absurd (omega arith)
  no-op h at x (b ∷ bs) p some e =
      let i : instruction ns n Transition 0 (b ∷ bs) ≡ Err x = subst (λ a. instruction ns n Transition a (b ∷ bs) ≡ Err x) p e in
      simp i

  pub ended : (h : ℕ) (bs : List ℕ) → length bs ≡ 0 → scanned ns n c 0 h bs ≡ h
  unfolding scanned
  ended h [] e = refl
  ended h (b ∷ bs) e = absurd (omega arith)

  module _ (s : Section) where
    none : (h : ℕ) (rest : List ℕ) → scanned ns n c 0 (max h 0) rest ≡ scanned ns n c 0 h rest
    none h rest = ap (λ x. scanned ns n c 0 x rest) (omega arith)

    through : (f : Formula) (h : ℕ) (rest : List ℕ) → Allowed s ns n f → scanned ns n c 0 h (written f ++ rest) ≡ scanned ns n c 0 (max h (height c f)) rest
    unfolding scanned written Allowed height
    through (is i x) h rest p = simp (lt-ltb i (length ns) p.0, lt-ltb x (get_or ns i 0) p.1)
    through (becomes i x) h rest p = simp (lt-ltb i (length ns) p.1, lt-ltb x (get_or ns i 0) p.2)
    through (stays i) h rest p = simp (lt-ltb i (length ns) p.1)
    through (clock Less d j) h rest p = simp (lt-ltb d n p.1, le-leb j 250 p.2)
    through (clock AtMost d j) h rest p = simp (lt-ltb d n p.1, le-leb j 250 p.2)
    through (clock Exactly d j) h rest p = simp (lt-ltb d n p.1, le-leb j 250 p.2)
    through (clock AtLeast d j) h rest p = simp (lt-ltb d n p.1, le-leb j 250 p.2)
    through (clock More d j) h rest p = simp (lt-ltb d n p.1, le-leb j 250 p.2)
    through always h rest p = refl
    through (not f) h rest p = simp append_assoc (through f h (33 ∷ rest) p ∙ none (max h (height c f)) rest)
    through (and f g) h rest p =
        let e : max (max (max h (height c f)) (height c g)) 0 ≡ max h (max (height c f) (height c g)) = omega arith in
        simp append_assoc (through f h (written g ++ (38 ∷ rest)) p.0 ∙ through g (max h (height c f)) (38 ∷ rest) p.1 ∙ ap (λ x. scanned ns n c 0 x rest) e)
    through (or f g) h rest p =
        let e : max (max (max h (height c f)) (height c g)) 0 ≡ max h (max (height c f) (height c g)) = omega arith in
        simp append_assoc (through f h (written g ++ (124 ∷ rest)) p.0 ∙ through g (max h (height c f)) (124 ∷ rest) p.1 ∙ ap (λ x. scanned ns n c 0 x rest) e)

    means : (bs : List ℕ) (f : Formula) → Writes ns n s bs f → scanned ns n c 0 0 bs ≡ height c f
    unfolding scanned
    means bs f h = ap (λ l. scanned ns n c 0 0 l) (h.bytes ∙ sym (append-nil (written f))) ∙ through f 0 [] h.allowed ∙ omega arith

  pub measured : (bs : List ℕ) (r : ℕ) → r ≡ scanned ns n c 0 0 bs → Heights ns n c bs r
  measured bs r e = record { answer = e; means = λ s f h. e ∙ means s bs f h }
