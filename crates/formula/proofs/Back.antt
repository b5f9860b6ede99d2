-- What is accepted is a formula that may stand there.
use Rattle.std.proofs.Common.{◌≡◌, ℕ, ◌+◌, ◌-◌, ◌≤◌, Bool, true, cond, ltb, leb, List, [], ◌∷◌, ◌++◌, length, drop, Ok, Err, sym, refl, ap, ◌∙◌, subst, append_assoc, append-nil, arith, length-drop}
use Rattle.std.proofs.lemmas.Bool.{ltb-true, leb-true, eqb-true}
use Rattle.instruction.specs.declared.faults.Fault.TheVariants.{Waiting}
use Rattle.instruction.specs.declared.sections.Section.{Section}
use Rattle.instruction.specs.declared.instructions.Instruction.{Instruction}
use Rattle.instruction.specs.declared.instructions.Instruction.TheVariants.{Is, Becomes, Stays, Clock, Always, Not, And, Or}
use Rattle.formula.specs.Formulas.{Formula, is, becomes, stays, clock, always, not, and, or, written, depth, Allowed, Writes}
use Rattle.instruction.specs.Reader.{instruction, width, waits, one_more}
use Rattle.formula.specs.Reader.{walk}
use Rattle.formula.specs.Rules.{spell, Held}
use Rattle.formula.proofs.Walks.{turn}
use Rattle.instruction.proofs.Inverse.{reads, tested, and_then-ok}
use Rattle.instruction.specs.Promise.{spelled, Fit}
use Rattle.instruction.proofs.Told.{wide}

counted : (b : Bool) (s : Section) (w at v : ℕ) → cond b (Ok w) (Err (Waiting s at)) ≡ Ok v → (b ≡ true) × (w ≡ v)
counted b s w at v e = let x = tested b (Ok w) (Waiting s at) v e in (x.0, cc x.1)

module _ (ns : List ℕ) (n : ℕ) (s : Section) where
  -- the trees that wait after the added bytes
  pub record Grown (added : List ℕ) (ts : List Formula) (v : ℕ) : Type 0 where
    pub trees : List Formula
    pub held : Held ns n s trees
    pub count : length trees ≡ v
    pub bytes : (rest : List ℕ) → spell trees ++ rest ≡ spell ts ++ (added ++ rest)

  leaf : (t : Formula) (ts : List Formula) (at v : ℕ) → Allowed s ns n t → depth t ≡ 1 → Held ns n s ts → one_more s at (length ts) ≡ Ok v → Grown (written t) ts v
  leaf t ts at v p d h e =
      let x = counted (ltb (length ts) 32) s (length ts + 1) at v e in
      let few = ltb-true (length ts) 32 x.0 in
      record { trees = t ∷ ts; held = (p, omega arith, h); count = omega arith; bytes = λ rest. append_assoc (spell ts) (written t) rest }

  pub grown : (op : Instruction) (ts : List Formula) (at v : ℕ) → Fit ns n s op → Held ns n s ts → waits op s at (length ts) ≡ Ok v → Grown (spelled op) ts v
  unfolding written depth Allowed
  grown (Is i k) ts at v p h e = leaf (is i k) ts at v p refl h e
  grown (Becomes i k) ts at v p h e = leaf (becomes i k) ts at v p refl h e
  grown (Stays i) ts at v p h e = leaf (stays i) ts at v p refl h e
  grown (Clock o c j) ts at v p h e = leaf (clock o c j) ts at v p refl h e
  grown Always ts at v p h e = leaf always ts at v p refl h e
  grown Not [] at v p h e = absurd (omega (arith, leb-true 1 0 (counted (leb 1 0) s 0 at v e).0))
  grown Not (t ∷ ts) at v p h e =
      let x = counted (leb 1 (length (t ∷ ts))) s (length (t ∷ ts)) at v e in
      record { trees = not t ∷ ts; held = h; count = x.1; bytes = λ rest. simp append_assoc }
  grown And [] at v p h e = absurd (omega (arith, leb-true 2 0 (counted (leb 2 0) s 0 at v e).0))
  grown And (t ∷ []) at v p h e = absurd (omega (arith, leb-true 2 1 (counted (leb 2 1) s 0 at v e).0))
  grown And (u ∷ t ∷ ts) at v p h e =
      let x = counted (leb 2 (length (u ∷ t ∷ ts))) s (length (u ∷ t ∷ ts) - 1) at v e in
      record { trees = and t u ∷ ts; held = ((h.2.0, h.0), omega arith, h.2.2); count = omega arith; bytes = λ rest. simp append_assoc }
  grown Or [] at v p h e = absurd (omega (arith, leb-true 2 0 (counted (leb 2 0) s 0 at v e).0))
  grown Or (t ∷ []) at v p h e = absurd (omega (arith, leb-true 2 1 (counted (leb 2 1) s 0 at v e).0))
  grown Or (u ∷ t ∷ ts) at v p h e =
      let x = counted (leb 2 (length (u ∷ t ∷ ts))) s (length (u ∷ t ∷ ts) - 1) at v e in
      record { trees = or t u ∷ ts; held = ((h.2.0, h.0), omega arith, h.2.2); count = omega arith; bytes = λ rest. simp append_assoc }

  one : (ts : List Formula) → Held ns n s ts → length ts ≡ 1 → (f : Formula) × Writes ns n s (spell ts ++ []) f
  one [] h e = absurd (omega arith)
  one (t ∷ []) h e = (t, record { bytes = append-nil (written t); allowed = h.0; shallow = omega arith })
  one (t ∷ u ∷ ts) h e = absurd (omega arith)

  pub back : (end fuel : ℕ) (ts : List Formula) (bs : List ℕ) → length bs ≤ fuel → Held ns n s ts → walk ns n s end 0 (length ts) bs ≡ Ok tt → (f : Formula) × Writes ns n s (spell ts ++ bs) f
  unfolding walk
  back end fuel ts [] le h e = one ts h (eqb-true _ 1 (tested _ _ _ tt e).0)
  back end ℕ.zero ts (b ∷ bs) le h e = absurd (omega arith)
  back end (ℕ.suc fuel) ts (b ∷ bs) le h e =
      let at : ℕ = end - length (b ∷ bs) in
      let x = and_then-ok (instruction ns n s at (b ∷ bs)) _ tt e in
      let y = and_then-ok (waits x.0 s at (length ts)) _ tt x.2 in
      let r = reads ns n s at (b ∷ bs) x.0 x.1 in
      let g = grown x.0 ts at y.0 r.fit h y.1 in
      let w = (wide x.0).0 in
      let rest : List ℕ = drop (width x.0) (b ∷ bs) in
      let shorter : length rest ≤ fuel = simp length-drop (omega arith) in
      let on : walk ns n s end 0 (length g.trees) rest ≡ Ok tt = ap (λ v. walk ns n s end 0 v rest) g.count ∙ sym (turn ns n s end (length ts) y.0 at x.0 (b ∷ bs) refl (omega arith) w x.1 y.1) ∙ e in
      let f = back end fuel g.trees rest shorter g.held on in
      let same : spell g.trees ++ rest ≡ spell ts ++ (b ∷ bs) = g.bytes rest ∙ ap (λ l. spell ts ++ l) (sym r.bytes) in
      (f.0, subst (λ l. Writes ns n s l f.0) same f.1)

  pub was-written : (end : ℕ) (bs : List ℕ) → walk ns n s end 0 0 bs ≡ Ok tt → (f : Formula) × Writes ns n s bs f
  was-written end bs e = back end (length bs) [] bs (omega arith) tt e
