-- An instruction that is refused breaks the rule of its fault and none before it.
use Rattle.std.proofs.Common.{◌≡◌, ℕ, ◌+◌, Bool, true, false, cond, eqb, ltb, leb, ◌⊎◌, List, [], ◌∷◌, length, get_or, Ok, Err, Result, sym, refl, ap, subst, inl, inr, ⊎_elim, arith}
use Rattle.std.proofs.lemmas.Bool.{ltb-true, ltb-false, leb-false, eqb-true, cond_both, both_ways, false≢true}
use Rattle.instruction.specs.declared.faults.Fault.{Fault}
use Rattle.instruction.specs.declared.faults.Refusal.{Refusal}
use Rattle.instruction.specs.declared.faults.Fault.TheVariants.{UnknownMark, Barred, CutShort, Undeclared, OutOfRange}
use Rattle.instruction.specs.declared.instructions.Compare.{Compare}
use Rattle.instruction.specs.declared.instructions.Compare.TheVariants.{Less, AtMost, Exactly, AtLeast, More}
use Rattle.instruction.specs.declared.sections.Section.{Section}
use Rattle.instruction.specs.declared.instructions.Instruction.{Instruction}
use Rattle.instruction.specs.declared.instructions.Instruction.TheVariants.{Is, Becomes, Stays}
use Rattle.instruction.specs.Marks.{next_allowed, clocks_allowed}
use Rattle.instruction.specs.Reader.{pair, single, clocked, comparison, instruction, and_then, next_part, clock_part}
use Rattle.instruction.proofs.Inverse.{next-was, clock-was}
use Rattle.instruction.specs.Faults.{refusal}
use Rattle.instruction.specs.Rules.{among, next_marks, clock_marks, variable_marks, value_marks, size, Known, Permitted, Whole, Breaks, unknown, barred, short, undeclared, out}

pub never : {A : Type 0} (y : A) (x : Fault) (G : Type 0) → Ok y ≡ Err x → G
never y x G e = absurd (let q : ◌≡◌ {A = ℕ} 0 1 = cc in omega arith)

-- what fails before the rest is asked, and what fails in the rest
pub and_then-err : {A B : Type 0} (r : Result A Fault) (f : A → Result B Fault) (x : Fault) → and_then r f ≡ Err x → (r ≡ Err x) ⊎ ((y : A) × (r ≡ Ok y) × (f y ≡ Err x))
and_then-err (Ok y) f x e = inr (y, refl, e)
and_then-err (Err z) f x e = let q : z ≡ x = cc in inl (ap Err q)

-- what holds of a fault holds of the one that was found
pub fault-is : {A : Type 0} (P : Refusal → Type 0) (z x : Fault) → ◌≡◌ {A = Result A Fault} (Err z) (Err x) → P (refusal z) → P (refusal x)
fault-is P z x e h = let q : z ≡ x = cc in subst (λ y. P (refusal y)) q h

-- a test that has led to a fault
pub untested : {A : Type 0} (b : Bool) (v : A) (z x : Fault) → cond b (Ok v) (Err z) ≡ Err x → (b ≡ false) × (z ≡ x)
untested true v z x e = never v x _ e
untested false v z x e = (refl, cc)

pub bothways : (t : Bool) (G : Type 0) → t ≡ false → t ≡ true → G
bothways t G p q = absurd (both_ways t p q)

module _ (ns : List ℕ) (n : ℕ) (s : Section) (at w : ℕ) (m : ℕ) (x : Fault) where
  of-fault : (bs : List ℕ) (z : Fault) → z ≡ x → Breaks ns n s at w m bs (refusal z) → Breaks ns n s at w m bs (refusal x)
  of-fault bs z q h = subst (λ y. Breaks ns n s at w m bs (refusal y)) q h

  is_err : {A : Type 0} (bs : List ℕ) (z : Fault) → ◌≡◌ {A = Result A Fault} (Err z) (Err x) → Breaks ns n s at w m bs (refusal z) → Breaks ns n s at w m bs (refusal x)
  is_err bs z e h = let q : z ≡ x = cc in of-fault bs z q h

  module _ (known : Known m) where
    barred-next : (bs : List ℕ) → among m next_marks ≡ true → next_part s at ≡ Err x → Breaks ns n s at w m bs (refusal x)
    barred-next bs t e =
        let u = untested (next_allowed s) tt (Barred s at) x e in
        of-fault bs (Barred s at) u.1 (barred known (λ p. both_ways (next_allowed s) u.0 (p.0 t)))

    barred-clock : (bs : List ℕ) → among m clock_marks ≡ true → clock_part s at ≡ Err x → Breaks ns n s at w m bs (refusal x)
    barred-clock bs t e =
        let u = untested (clocks_allowed s) tt (Barred s at) x e in
        of-fault bs (Barred s at) u.1 (barred known (λ p. both_ways (clocks_allowed s) u.0 (p.1 t)))

    module _ (may : Permitted s m) where
      pair-broke : (bs : List ℕ) → among m value_marks ≡ true → among m variable_marks ≡ true → among m clock_marks ≡ false → size m ≡ 3 → pair ns s at (m ∷ bs) ≡ Err x → Breaks ns n s at w m bs (refusal x)
      pair-broke [] v vm c three e = is_err [] (CutShort s at) e (short known may (λ h. omega arith))
      pair-broke (i ∷ []) v vm c three e = is_err (i ∷ []) (CutShort s at) e (short known may (λ h. omega arith))
      pair-broke (i ∷ k ∷ bs) v vm c three e =
          let P : Result (ℕ × ℕ) Fault → Type 0 = λ r. r ≡ Err x → Breaks ns n s at w m (i ∷ k ∷ bs) (refusal x) in
          let whole : Whole m (i ∷ k ∷ bs) = omega arith in
          cond_both (ltb i (length ns)) _ _ P
          (λ t. cond_both (ltb k (get_or ns i 0)) _ _ P (λ u f. never _ x _ f)
          (λ u f. is_err (i ∷ k ∷ bs) (OutOfRange s (at + 2)) f (out known may whole (λ _. ltb-true i (length ns) t, λ z. bothways _ _ c z) (λ r. omega (arith, r.0 v, ltb-false k (get_or ns i 0) u)))))
          (λ t f. is_err (i ∷ k ∷ bs) (Undeclared s (at + 1)) f (undeclared known may whole (λ d. omega (arith, d.0 vm, ltb-false i (length ns) t))))
          e

      single-broke : (bs : List ℕ) → among m variable_marks ≡ true → size m ≡ 2 → single ns s at (m ∷ bs) ≡ Err x → Breaks ns n s at w m bs (refusal x)
      single-broke [] vm two e = is_err [] (CutShort s at) e (short known may (λ h. omega arith))
      single-broke (i ∷ bs) vm two e =
          let P : Result ℕ Fault → Type 0 = λ r. r ≡ Err x → Breaks ns n s at w m (i ∷ bs) (refusal x) in
          let whole : Whole m (i ∷ bs) = omega arith in
          cond_both (ltb i (length ns)) _ _ P
          (λ t f. never _ x _ f)
          (λ t f. is_err (i ∷ bs) (Undeclared s (at + 1)) f (undeclared known may whole (λ d. omega (arith, d.0 vm, ltb-false i (length ns) t))))
          e

      clocked-broke : (bs : List ℕ) → among m variable_marks ≡ false → among m clock_marks ≡ true → size m ≡ 3 → clocked n s at (m ∷ bs) ≡ Err x → Breaks ns n s at w m bs (refusal x)
      clocked-broke [] vm c three e = is_err [] (CutShort s at) e (short known may (λ h. omega arith))
      clocked-broke (i ∷ []) vm c three e = is_err (i ∷ []) (CutShort s at) e (short known may (λ h. omega arith))
      clocked-broke (i ∷ k ∷ bs) vm c three e =
          let P : Result (ℕ × ℕ) Fault → Type 0 = λ r. r ≡ Err x → Breaks ns n s at w m (i ∷ k ∷ bs) (refusal x) in
          let whole : Whole m (i ∷ k ∷ bs) = omega arith in
          cond_both (ltb i n) _ _ P
          (λ t. cond_both (leb k 250) _ _ P (λ u f. never _ x _ f)
          (λ u f. is_err (i ∷ k ∷ bs) (OutOfRange s (at + 2)) f (out known may whole (λ z. bothways _ _ vm z, λ _. ltb-true i n t) (λ r. omega (arith, r.1 c, leb-false k 250 u)))))
          (λ t f. is_err (i ∷ k ∷ bs) (Undeclared s (at + 1)) f (undeclared known may whole (λ d. omega (arith, d.1 c, ltb-false i n t))))
          e

pub no_test : (G : Type 0) → false ≡ true → G
no_test G z = absurd (false≢true z)

module _ (ns : List ℕ) (n : ℕ) (s : Section) (at w : ℕ) (x : Fault) where
  is-broke : (bs : List ℕ) → and_then (pair ns s at (118 ∷ bs)) (λ p. Ok (Is p.0 p.1)) ≡ Err x → Breaks ns n s at w 118 bs (refusal x)
  is-broke bs e =
      ⊎_elim (λ f. pair-broke ns n s at w 118 x refl (no_test _, no_test _) bs refl refl refl refl f) (λ y. never _ x _ y.2) (and_then-err _ _ x e)

  becomes-broke : (bs : List ℕ) → and_then (next_part s at) (λ _. and_then (pair ns s at (110 ∷ bs)) (λ p. Ok (Becomes p.0 p.1))) ≡ Err x → Breaks ns n s at w 110 bs (refusal x)
  becomes-broke bs e =
      ⊎_elim (λ f. barred-next ns n s at w 110 x refl bs refl f)
      (λ z. ⊎_elim (λ f. pair-broke ns n s at w 110 x refl ((λ _. next-was s at _ z.1), no_test _) bs refl refl refl refl f) (λ y. never _ x _ y.2) (and_then-err _ _ x z.2))
      (and_then-err _ _ x e)

  stays-broke : (bs : List ℕ) → and_then (next_part s at) (λ _. and_then (single ns s at (115 ∷ bs)) (λ i. Ok (Stays i))) ≡ Err x → Breaks ns n s at w 115 bs (refusal x)
  stays-broke bs e =
      ⊎_elim (λ f. barred-next ns n s at w 115 x refl bs refl f)
      (λ z. ⊎_elim (λ f. single-broke ns n s at w 115 x refl ((λ _. next-was s at _ z.1), no_test _) bs refl refl f) (λ y. never _ x _ y.2) (and_then-err _ _ x z.2))
      (and_then-err _ _ x e)

  clock-broke : (o : Compare) (m : ℕ) (bs : List ℕ) → Known m → among m clock_marks ≡ true → among m next_marks ≡ false → among m variable_marks ≡ false → size m ≡ 3 → comparison o n s at (m ∷ bs) ≡ Err x → Breaks ns n s at w m bs (refusal x)
  clock-broke o m bs known c nx vm three e =
      ⊎_elim (λ f. barred-clock ns n s at w m x known bs c f)
      (λ z. ⊎_elim (λ f. clocked-broke ns n s at w m x known ((λ t. bothways _ _ nx t), λ _. clock-was s at _ z.1) bs vm c three f) (λ y. never _ x _ y.2) (and_then-err _ _ x z.2))
      (and_then-err _ _ x e)

  pub broken : (m : ℕ) (bs : List ℕ) → instruction ns n s at (m ∷ bs) ≡ Err x → Breaks ns n s at w m bs (refusal x)
  broken m bs given =
      let P : Result Instruction Fault → Type 0 = λ r. r ≡ Err x → Breaks ns n s at w m bs (refusal x) in
      let C : Compare → ℕ → Type 0 = λ o q. comparison o n s at (q ∷ bs) ≡ Err x → Breaks ns n s at w q bs (refusal x) in
      (cond_both (eqb m 118) _ _ P (λ t. subst (λ q. and_then (pair ns s at (q ∷ bs)) (λ p. Ok (Is p.0 p.1)) ≡ Err x → Breaks ns n s at w q bs (refusal x)) (sym (eqb-true m 118 t)) (is-broke bs)) (λ t1.
      cond_both (eqb m 110) _ _ P (λ t. subst (λ q. and_then (next_part s at) (λ _. and_then (pair ns s at (q ∷ bs)) (λ p. Ok (Becomes p.0 p.1))) ≡ Err x → Breaks ns n s at w q bs (refusal x)) (sym (eqb-true m 110 t)) (becomes-broke bs)) (λ t2.
      cond_both (eqb m 115) _ _ P (λ t. subst (λ q. and_then (next_part s at) (λ _. and_then (single ns s at (q ∷ bs)) (λ i. Ok (Stays i))) ≡ Err x → Breaks ns n s at w q bs (refusal x)) (sym (eqb-true m 115 t)) (stays-broke bs)) (λ t3.
      cond_both (eqb m 60) _ _ P (λ t. subst (C Less) (sym (eqb-true m 60 t)) (clock-broke Less 60 bs refl refl refl refl refl)) (λ t4.
      cond_both (eqb m 108) _ _ P (λ t. subst (C AtMost) (sym (eqb-true m 108 t)) (clock-broke AtMost 108 bs refl refl refl refl refl)) (λ t5.
      cond_both (eqb m 61) _ _ P (λ t. subst (C Exactly) (sym (eqb-true m 61 t)) (clock-broke Exactly 61 bs refl refl refl refl refl)) (λ t6.
      cond_both (eqb m 103) _ _ P (λ t. subst (C AtLeast) (sym (eqb-true m 103 t)) (clock-broke AtLeast 103 bs refl refl refl refl refl)) (λ t7.
      cond_both (eqb m 62) _ _ P (λ t. subst (C More) (sym (eqb-true m 62 t)) (clock-broke More 62 bs refl refl refl refl refl)) (λ t8.
      cond_both (eqb m 116) _ _ P (λ t e. never _ x _ e) (λ t9.
      cond_both (eqb m 33) _ _ P (λ t e. never _ x _ e) (λ t10.
      cond_both (eqb m 38) _ _ P (λ t e. never _ x _ e) (λ t11.
      cond_both (eqb m 124) _ _ P (λ t e. never _ x _ e) (λ t12 e.
      is_err ns n s at w m x bs (UnknownMark s at) e (unknown (λ k. no_test _ (simp (t1, t2, t3, t4, t5, t6, t7, t8, t9, t10, t11, t12) at k)))))))))))))))) given
