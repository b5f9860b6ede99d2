-- What is refused is formulas that wait, and then an instruction that breaks the rule of the fault.
use Rattle.std.proofs.Common.{◌≡◌, ℕ, ◌+◌, ◌-◌, ◌≤◌, true, eqb, ltb, leb, List, [], ◌∷◌, ◌++◌, length, drop, Err, sym, refl, ap, ◌∙◌, subst, ⊎_elim, arith, length-drop}
use Rattle.std.proofs.lemmas.Bool.{ltb-false, leb-false, eqb-false}
use Rattle.instruction.specs.declared.faults.Fault.{Fault}
use Rattle.instruction.specs.declared.faults.Fault.TheVariants.{Waiting}
use Rattle.instruction.specs.declared.instructions.Compare.TheVariants.{Less, AtMost, Exactly, AtLeast, More}
use Rattle.instruction.specs.declared.sections.Section.{Section}
use Rattle.instruction.specs.declared.instructions.Instruction.{Instruction}
use Rattle.instruction.specs.declared.instructions.Instruction.TheVariants.{Is, Becomes, Stays, Clock, Always, Not, And, Or}
use Rattle.formula.specs.Formulas.{Formula}
use Rattle.instruction.specs.Reader.{instruction, width, waits, one_more}
use Rattle.formula.specs.Reader.{walk}
use Rattle.instruction.specs.Rules.{among, leaf_marks, Known, Permitted, Whole, Declared, InRange, Room, Breaks, crowded}
use Rattle.formula.specs.Rules.{Stops, left_over, breaks, Refused, spell, Held}
use Rattle.formula.proofs.Walks.{turn}
use Rattle.instruction.proofs.Inverse.{reads}
use Rattle.instruction.specs.Promise.{spelled, Fit}
use Rattle.instruction.proofs.Told.{wide}
use Rattle.formula.proofs.Back.{grown}
use Rattle.instruction.specs.Faults.{refusal}
use Rattle.instruction.proofs.Broken.{broken, and_then-err, untested, no_test}

module _ (ns : List ℕ) (n : ℕ) (s : Section) where
  module _ (at w : ℕ) (x : Fault) where
    -- the five rules before the last
    abbrev Keeps : ℕ → List ℕ → Type 0
    Keeps m bs = Known m × Permitted s m × Whole m bs × Declared ns n m bs × InRange ns m bs

    too_many : (m : ℕ) (bs : List ℕ) → Keeps m bs → (Room m w → ⊥) → ◌≡◌ {A = Fault} (Waiting s at) x → Breaks ns n s at w m bs (refusal x)
    too_many m bs k r q = subst (λ y. Breaks ns n s at w m bs (refusal y)) q (crowded k.0 k.1 k.2 k.3 k.4 r)

    full : (m : ℕ) (bs : List ℕ) → Keeps m bs → among m leaf_marks ≡ true → one_more s at w ≡ Err x → Breaks ns n s at w m bs (refusal x)
    full m bs k t e =
        let u = untested (ltb w 32) (w + 1) (Waiting s at) x e in
        too_many m bs k (λ r. omega (arith, r.0 t, ltb-false w 32 u.0)) u.1

    abbrev At : List ℕ → Type 0
    At [] = ⊥
    At (m ∷ bs) = Breaks ns n s at w m bs (refusal x)

    no_room : (op : Instruction) (rest : List ℕ) → Fit ns n s op → waits op s at w ≡ Err x → At (spelled op ++ rest)
    no_room (Is i k) rest p e = full 118 (i ∷ k ∷ rest) (refl, (no_test _, no_test _), omega arith, ((λ _. p.0), no_test _), ((λ _. p.1), no_test _)) refl e
    no_room (Becomes i k) rest p e = full 110 (i ∷ k ∷ rest) (refl, ((λ _. p.0), no_test _), omega arith, ((λ _. p.1), no_test _), ((λ _. p.2), no_test _)) refl e
    no_room (Stays i) rest p e = full 115 (i ∷ rest) (refl, ((λ _. p.0), no_test _), omega arith, ((λ _. p.1), no_test _), (no_test _, no_test _)) refl e
    no_room (Clock Less c j) rest p e = full 60 (c ∷ j ∷ rest) (refl, (no_test _, λ _. p.0), omega arith, (no_test _, λ _. p.1), (no_test _, λ _. p.2)) refl e
    no_room (Clock AtMost c j) rest p e = full 108 (c ∷ j ∷ rest) (refl, (no_test _, λ _. p.0), omega arith, (no_test _, λ _. p.1), (no_test _, λ _. p.2)) refl e
    no_room (Clock Exactly c j) rest p e = full 61 (c ∷ j ∷ rest) (refl, (no_test _, λ _. p.0), omega arith, (no_test _, λ _. p.1), (no_test _, λ _. p.2)) refl e
    no_room (Clock AtLeast c j) rest p e = full 103 (c ∷ j ∷ rest) (refl, (no_test _, λ _. p.0), omega arith, (no_test _, λ _. p.1), (no_test _, λ _. p.2)) refl e
    no_room (Clock More c j) rest p e = full 62 (c ∷ j ∷ rest) (refl, (no_test _, λ _. p.0), omega arith, (no_test _, λ _. p.1), (no_test _, λ _. p.2)) refl e
    no_room Always rest p e = full 116 rest (refl, (no_test _, no_test _), omega arith, (no_test _, no_test _), (no_test _, no_test _)) refl e
    no_room Not rest p e =
        let u = untested (leb 1 w) w (Waiting s at) x e in
        too_many 33 rest (refl, (no_test _, no_test _), omega arith, (no_test _, no_test _), (no_test _, no_test _)) (λ r. omega (arith, r.1 refl, leb-false 1 w u.0)) u.1
    no_room And rest p e =
        let u = untested (leb 2 w) (w - 1) (Waiting s at) x e in
        too_many 38 rest (refl, (no_test _, no_test _), omega arith, (no_test _, no_test _), (no_test _, no_test _)) (λ r. omega (arith, r.2 refl, leb-false 2 w u.0)) u.1
    no_room Or rest p e =
        let u = untested (leb 2 w) (w - 1) (Waiting s at) x e in
        too_many 124 rest (refl, (no_test _, no_test _), omega arith, (no_test _, no_test _), (no_test _, no_test _)) (λ r. omega (arith, r.2 refl, leb-false 2 w u.0)) u.1

  front : (end fuel : ℕ) (ts : List Formula) (bs : List ℕ) (x : Fault) → length bs ≤ fuel → Held ns n s ts → walk ns n s end 0 (length ts) bs ≡ Err x → Refused ns n s end (spell ts ++ bs) (refusal x)
  unfolding walk
  front end fuel ts [] x le h e =
      let u = untested (eqb (length ts) 1) tt (Waiting s end) x e in
      record { trees = ts; held = h; rest = []; bytes = refl; stop = subst (λ y. Stops ns n s end (length ts) [] (refusal y)) u.1 (left_over (eqb-false (length ts) 1 u.0)) }
  front end ℕ.zero ts (b ∷ bs) x le h e = absurd (omega arith)
  front end (ℕ.suc fuel) ts (b ∷ bs) x le h e =
      let at : ℕ = end - length (b ∷ bs) in
      ⊎_elim
      (λ f. record { trees = ts; held = h; rest = b ∷ bs; bytes = refl; stop = breaks b bs (refusal x) (broken ns n s at (length ts) x b bs f) })
      (λ y. let r = reads ns n s at (b ∷ bs) y.0 y.1 in
      ⊎_elim
      (λ f. record { trees = ts; held = h; rest = b ∷ bs; bytes = refl; stop = breaks b bs (refusal x) (subst (At at (length ts) x) (sym r.bytes) (no_room at (length ts) x y.0 (drop (width y.0) (b ∷ bs)) r.fit f)) })
      (λ z. let g = grown ns n s y.0 ts at z.0 r.fit h z.1 in
      let w = (wide y.0).0 in
      let rest : List ℕ = drop (width y.0) (b ∷ bs) in
      let shorter : length rest ≤ fuel = simp length-drop (omega arith) in
      let on : walk ns n s end 0 (length g.trees) rest ≡ Err x = ap (λ v. walk ns n s end 0 v rest) g.count ∙ sym (turn ns n s end (length ts) z.0 at y.0 (b ∷ bs) refl (omega arith) w y.1 z.1) ∙ e in
      let same : spell g.trees ++ rest ≡ spell ts ++ (b ∷ bs) = g.bytes rest ∙ ap (λ l. spell ts ++ l) (sym r.bytes) in
      subst (λ l. Refused ns n s end l (refusal x)) same (front end fuel g.trees rest x shorter g.held on))
      (and_then-err (waits y.0 s at (length ts)) _ x y.2))
      (and_then-err (instruction ns n s at (b ∷ bs)) _ x e)

  pub was-refused : (end : ℕ) (bs : List ℕ) (x : Fault) → walk ns n s end 0 0 bs ≡ Err x → Refused ns n s end bs (refusal x)
  was-refused end bs x e = front end (length bs) [] bs x (omega arith) tt e
