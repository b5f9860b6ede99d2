-- What an instruction that was read says of the bytes.
use Rattle.std.proofs.Common.{◌≡◌, ℕ, ◌<◌, ◌≤◌, Bool, true, false, cond, eqb, List, [], ◌∷◌, ◌++◌, length, get_or, drop, Ok, Err, Result, refl, subst, arith}
use Rattle.std.proofs.lemmas.Bool.{ltb-true, leb-true, eqb-true, cond_both}
use Rattle.instruction.specs.declared.faults.Fault.{Fault}
use Rattle.instruction.specs.declared.faults.Fault.TheVariants.{Barred}
use Rattle.instruction.specs.declared.instructions.Compare.{Compare}
use Rattle.instruction.specs.declared.instructions.Compare.TheVariants.{Less, AtMost, Exactly, AtLeast, More}
use Rattle.instruction.specs.declared.sections.Section.{Section}
use Rattle.instruction.specs.declared.instructions.Instruction.{Instruction}
use Rattle.instruction.specs.declared.instructions.Instruction.TheVariants.{Is, Becomes, Stays, Always, Not, And, Or}
use Rattle.instruction.specs.Marks.{HasNext, HasClocks, next_allowed, clocks_allowed, mark}
use Rattle.instruction.specs.Promise.{spelled, Fit, Reads}
use Rattle.instruction.specs.Reader.{pair, single, clocked, comparison, instruction, width, and_then, next_part, clock_part}

pub and_then-ok : {A B : Type 0} (r : Result A Fault) (f : A → Result B Fault) (y : B) → and_then r f ≡ Ok y → (x : A) × (r ≡ Ok x) × (f x ≡ Ok y)
and_then-ok (Ok x) f y e = (x, refl, e)
and_then-ok (Err z) f y e = absurd (let q : ◌≡◌ {A = ℕ} 0 1 = cc in omega arith)

pub never-ok : {A : Type 0} (x : Fault) (y : A) (G : Type 0) → Err x ≡ Ok y → G
never-ok x y G e = absurd (let q : ◌≡◌ {A = ℕ} 0 1 = cc in omega arith)

-- a test that has led to an answer
pub tested : {A : Type 0} (b : Bool) (r : Result A Fault) (x : Fault) (y : A) → cond b r (Err x) ≡ Ok y → (b ≡ true) × (r ≡ Ok y)
tested true r x y e = (refl, e)
tested false r x y e = never-ok x y _ e

pub next-was : (s : Section) (at : ℕ) (y : Unit {0}) → next_part s at ≡ Ok y → HasNext s
next-was s at y e = (tested (next_allowed s) (Ok tt) (Barred s at) y e).0

pub clock-was : (s : Section) (at : ℕ) (y : Unit {0}) → clock_part s at ≡ Ok y → HasClocks s
clock-was s at y e = (tested (clocks_allowed s) (Ok tt) (Barred s at) y e).0

pair-was : (ns : List ℕ) (s : Section) (at m : ℕ) (bs : List ℕ) (p : ℕ × ℕ) → pair ns s at (m ∷ bs) ≡ Ok p → (p.0 < length ns) × (p.1 < get_or ns p.0 0) × (bs ≡ p.0 ∷ p.1 ∷ drop 2 bs)
pair-was ns s at m [] p e = never-ok _ p _ e
pair-was ns s at m (i ∷ []) p e = never-ok _ p _ e
pair-was ns s at m (i ∷ k ∷ bs) p e =
    let x = tested _ _ _ p e in
    let y = tested _ _ _ p x.1 in
    let same : (i, k) ≡ p = cc y.1 in
    subst (λ q. (q.0 < length ns) × (q.1 < get_or ns q.0 0) × (i ∷ k ∷ bs ≡ q.0 ∷ q.1 ∷ bs)) same (ltb-true _ _ x.0, ltb-true _ _ y.0, refl)

single-was : (ns : List ℕ) (s : Section) (at m : ℕ) (bs : List ℕ) (p : ℕ) → single ns s at (m ∷ bs) ≡ Ok p → (p < length ns) × (bs ≡ p ∷ drop 1 bs)
single-was ns s at m [] p e = never-ok _ p _ e
single-was ns s at m (i ∷ bs) p e =
    let x = tested _ _ _ p e in
    let same : i ≡ p = cc x.1 in
    subst (λ q. (q < length ns) × (i ∷ bs ≡ q ∷ bs)) same (ltb-true _ _ x.0, refl)

clocked-was : (n : ℕ) (s : Section) (at m : ℕ) (bs : List ℕ) (p : ℕ × ℕ) → clocked n s at (m ∷ bs) ≡ Ok p → (p.0 < n) × (p.1 ≤ 250) × (bs ≡ p.0 ∷ p.1 ∷ drop 2 bs)
clocked-was n s at m [] p e = never-ok _ p _ e
clocked-was n s at m (i ∷ []) p e = never-ok _ p _ e
clocked-was n s at m (i ∷ k ∷ bs) p e =
    let x = tested _ _ _ p e in
    let y = tested _ _ _ p x.1 in
    let same : (i, k) ≡ p = cc y.1 in
    subst (λ q. (q.0 < n) × (q.1 ≤ 250) × (i ∷ k ∷ bs ≡ q.0 ∷ q.1 ∷ bs)) same (ltb-true _ _ x.0, leb-true _ _ y.0, refl)

module _ (ns : List ℕ) (n : ℕ) (s : Section) (at : ℕ) where
  -- the answer is op, so what is true of the instruction that was put together is true of op
  made_of : (bs : List ℕ) (x op : Instruction) → ◌≡◌ {A = Result Instruction Fault} (Ok x) (Ok op) → Reads ns n s bs x → Reads ns n s bs op
  made_of bs x op e h = let same : x ≡ op = cc in subst (Reads ns n s bs) same h

  is-was : (m : ℕ) (bs : List ℕ) (op : Instruction) → m ≡ 118 → and_then (pair ns s at (m ∷ bs)) (λ p. Ok (Is p.0 p.1)) ≡ Ok op → Reads ns n s (m ∷ bs) op
  is-was m bs op t e =
      let x = and_then-ok (pair ns s at (m ∷ bs)) _ op e in
      let p = pair-was ns s at m bs x.0 x.1 in
      made_of _ _ op x.2 (record { fit = (p.0, p.1); bytes = cc p.2 })

  becomes-was : (m : ℕ) (bs : List ℕ) (op : Instruction) → m ≡ 110 → and_then (next_part s at) (λ _. and_then (pair ns s at (m ∷ bs)) (λ p. Ok (Becomes p.0 p.1))) ≡ Ok op → Reads ns n s (m ∷ bs) op
  becomes-was m bs op t e =
      let z = and_then-ok (next_part s at) _ op e in
      let x = and_then-ok (pair ns s at (m ∷ bs)) _ op z.2 in
      let p = pair-was ns s at m bs x.0 x.1 in
      made_of _ _ op x.2 (record { fit = (next-was s at _ z.1, p.0, p.1); bytes = cc p.2 })

  stays-was : (m : ℕ) (bs : List ℕ) (op : Instruction) → m ≡ 115 → and_then (next_part s at) (λ _. and_then (single ns s at (m ∷ bs)) (λ i. Ok (Stays i))) ≡ Ok op → Reads ns n s (m ∷ bs) op
  stays-was m bs op t e =
      let z = and_then-ok (next_part s at) _ op e in
      let x = and_then-ok (single ns s at (m ∷ bs)) _ op z.2 in
      let p = single-was ns s at m bs x.0 x.1 in
      made_of _ _ op x.2 (record { fit = (next-was s at _ z.1, p.0); bytes = cc p.1 })

  clock-op-was : (o : Compare) (m : ℕ) (bs : List ℕ) (op : Instruction) → m ≡ mark o → comparison o n s at (m ∷ bs) ≡ Ok op → Reads ns n s (m ∷ bs) op
  clock-op-was o m bs op t e =
      let z = and_then-ok (clock_part s at) _ op e in
      let x = and_then-ok (clocked n s at (m ∷ bs)) _ op z.2 in
      let p = clocked-was n s at m bs x.0 x.1 in
      made_of _ _ op x.2 (record { fit = (clock-was s at _ z.1, p.0, p.1); bytes = cc p.2 })

  bare-was : (m k : ℕ) (bs : List ℕ) (x op : Instruction) → Fit ns n s x → m ∷ bs ≡ spelled x ++ drop (width x) (m ∷ bs) → ◌≡◌ {A = Result Instruction Fault} (Ok x) (Ok op) → Reads ns n s (m ∷ bs) op
  bare-was m k bs x op h s e = made_of _ x op e (record { fit = h; bytes = s })

  pub reads : (bs : List ℕ) (op : Instruction) → instruction ns n s at bs ≡ Ok op → Reads ns n s bs op
  reads [] op e = never-ok _ op _ e
  reads (m ∷ bs) op given =
      let P : Result Instruction Fault → Type 0 = λ r. r ≡ Ok op → Reads ns n s (m ∷ bs) op in
      (cond_both (eqb m 118) _ _ P (λ t e. is-was m bs op (eqb-true m 118 t) e) (λ _.
      cond_both (eqb m 110) _ _ P (λ t e. becomes-was m bs op (eqb-true m 110 t) e) (λ _.
      cond_both (eqb m 115) _ _ P (λ t e. stays-was m bs op (eqb-true m 115 t) e) (λ _.
      cond_both (eqb m 60) _ _ P (λ t e. clock-op-was Less m bs op (eqb-true m 60 t) e) (λ _.
      cond_both (eqb m 108) _ _ P (λ t e. clock-op-was AtMost m bs op (eqb-true m 108 t) e) (λ _.
      cond_both (eqb m 61) _ _ P (λ t e. clock-op-was Exactly m bs op (eqb-true m 61 t) e) (λ _.
      cond_both (eqb m 103) _ _ P (λ t e. clock-op-was AtLeast m bs op (eqb-true m 103 t) e) (λ _.
      cond_both (eqb m 62) _ _ P (λ t e. clock-op-was More m bs op (eqb-true m 62 t) e) (λ _.
      cond_both (eqb m 116) _ _ P (λ t e. bare-was m 116 bs Always op tt (cc (eqb-true m 116 t)) e) (λ _.
      cond_both (eqb m 33) _ _ P (λ t e. bare-was m 33 bs Not op tt (cc (eqb-true m 33 t)) e) (λ _.
      cond_both (eqb m 38) _ _ P (λ t e. bare-was m 38 bs And op tt (cc (eqb-true m 38 t)) e) (λ _.
      cond_both (eqb m 124) _ _ P (λ t e. bare-was m 124 bs Or op tt (cc (eqb-true m 124 t)) e) (λ _ e.
      never-ok _ op _ e))))))))))))) given
