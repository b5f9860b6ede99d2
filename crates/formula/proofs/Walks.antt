-- One turn of the acceptance loop.
use Rattle.std.proofs.Common.{◌≡◌, ℕ, ◌-◌, ◌<◌, ◌≤◌, List, [], ◌∷◌, length, drop, Ok, Err, refl, ap, ◌∙◌, subst, arith}
use Rattle.std.proofs.lemmas.Bool.{eq-eqb, ne_eqb}
use Rattle.instruction.specs.declared.faults.Fault.{Fault}
use Rattle.instruction.specs.declared.faults.Fault.TheVariants.{Waiting}
use Rattle.instruction.specs.declared.sections.Section.{Section}
use Rattle.instruction.specs.declared.instructions.Instruction.{Instruction}
use Rattle.instruction.specs.Reader.{instruction, width, waits}
use Rattle.formula.specs.Reader.{walk}

module _ (ns : List ℕ) (n : ℕ) (s : Section) (end : ℕ) where
  pub skip : (k w : ℕ) (bs : List ℕ) → walk ns n s end k w bs ≡ walk ns n s end 0 w (drop k bs)
  unfolding walk
  skip ℕ.zero w bs = refl
  skip (ℕ.suc k) w [] = refl
  skip (ℕ.suc k) w (b ∷ bs) = skip k w bs

  -- at is where the bytes that are left begin
  pub turn : (w v at : ℕ) (op : Instruction) (bs : List ℕ) → at ≡ end - length bs → 0 < length bs → 1 ≤ width op → instruction ns n s at bs ≡ Ok op → waits op s at w ≡ Ok v → walk ns n s end 0 w bs ≡ walk ns n s end 0 v (drop (width op) bs)
  unfolding walk
  turn w v at op [] p some pos e f = absurd (omega arith)
  turn w v at op (b ∷ bs) p some pos e f =
      let back : ℕ.suc (width op - 1) ≡ width op = omega arith in
      let i : instruction ns n s (end - length (b ∷ bs)) (b ∷ bs) ≡ Ok op = subst (λ a. instruction ns n s a (b ∷ bs) ≡ Ok op) p e in
      let j : waits op s (end - length (b ∷ bs)) w ≡ Ok v = subst (λ a. waits op s a w ≡ Ok v) p f in
      simp (i, j) (skip (width op - 1) v bs ∙ ap (λ k. walk ns n s end 0 v (drop k (b ∷ bs))) back)

  pub no-op : (w at : ℕ) (x : Fault) (bs : List ℕ) → at ≡ end - length bs → 0 < length bs → instruction ns n s at bs ≡ Err x → walk ns n s end 0 w bs ≡ Err x
  unfolding walk
  no-op w at x [] p some e = absurd (omega arith)
  no-op w at x (b ∷ bs) p some e =
      let i : instruction ns n s (end - length (b ∷ bs)) (b ∷ bs) ≡ Err x = subst (λ a. instruction ns n s a (b ∷ bs) ≡ Err x) p e in
      simp i

  pub no-wait : (w at : ℕ) (op : Instruction) (x : Fault) (bs : List ℕ) → at ≡ end - length bs → 0 < length bs → instruction ns n s at bs ≡ Ok op → waits op s at w ≡ Err x → walk ns n s end 0 w bs ≡ Err x
  unfolding walk
  no-wait w at op x [] p some e f = absurd (omega arith)
  no-wait w at op x (b ∷ bs) p some e f =
      let i : instruction ns n s (end - length (b ∷ bs)) (b ∷ bs) ≡ Ok op = subst (λ a. instruction ns n s a (b ∷ bs) ≡ Ok op) p e in
      let j : waits op s (end - length (b ∷ bs)) w ≡ Err x = subst (λ a. waits op s a w ≡ Err x) p f in
      simp (i, j)

  pub one_left : (w : ℕ) (bs : List ℕ) → length bs ≡ 0 → w ≡ 1 → walk ns n s end 0 w bs ≡ Ok tt
  unfolding walk
  one_left w [] e h = simp (eq-eqb w 1 h)
  one_left w (b ∷ bs) e h = absurd (omega arith)

  pub not-one-left : (w : ℕ) (bs : List ℕ) → length bs ≡ 0 → (w ≡ 1 → ⊥) → walk ns n s end 0 w bs ≡ Err (Waiting s end)
  unfolding walk
  not-one-left w [] e h = simp (ne_eqb w 1 h)
  not-one-left w (b ∷ bs) e h = absurd (omega arith)
