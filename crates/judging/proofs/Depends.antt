-- Judging looks at no more than the sides of declared clocks to constants up to the largest in the bytes.
use Rattle.std.proofs.Common.{◌≡◌, ℕ, ◌-◌, ◌<◌, ◌≤◌, max, cond, eqb, List, [], ◌∷◌, Ok, Err, Result, refl, ap, ◌∙◌, arith}
use Rattle.std.proofs.lemmas.Bool.{eq-eqb}
use Rattle.instruction.specs.declared.faults.Fault.{Fault}
use Rattle.instruction.specs.declared.instructions.Instruction.{Instruction}
use Rattle.instruction.specs.declared.instructions.Instruction.TheVariants.{Is, Becomes, Stays, Clock, Always, Not, And, Or}
use Rattle.instruction.specs.declared.sections.Section.TheVariants.{Transition}
use Rattle.instruction.specs.Reader.{instruction, width}
use Rattle.instruction.specs.Promise.{Fit}
use Rattle.instruction.proofs.Inverse.{reads}
use Rattle.formula.specs.Heights.{constant_of, or_else, scanned}
use Rattle.judging.specs.Truth.{View, meets}
use Rattle.judging.specs.Judging.{judged, after, push, on_ok}

-- the scan only rises
rises : (ns : List ℕ) (n c k h : ℕ) (bs : List ℕ) → h ≤ scanned ns n c k h bs
unfolding scanned
rises ns n c k h [] = omega arith
rises ns n c (ℕ.suc k) h (b ∷ bs) = rises ns n c k h bs
rises ns n c ℕ.zero h (b ∷ bs) = risen (instruction ns n Transition 0 (b ∷ bs)) (λ op. rises ns n c (width op - 1) (max h (constant_of c op)) bs)
  where
    risen : (r : Result Instruction Fault) → ((op : Instruction) → max h (constant_of c op) ≤ scanned ns n c (width op - 1) (max h (constant_of c op)) bs) → h ≤ or_else h r (λ op. scanned ns n c (width op - 1) (max h (constant_of c op)) bs)
    risen (Ok op) more = omega (arith, more op)
    risen (Err x) more = omega arith

own : (c j : ℕ) → cond (eqb c c) j 0 ≡ j
own c j = simp (eq-eqb c c refl)

module _ (v w : View) (values : v.value ≡ w.value) (nexts : v.next ≡ w.next) where
  one : (ns : List ℕ) (n : ℕ) (op : Instruction) (s : ℕ) → Fit ns n Transition op → ((c j : ℕ) → c < n → j ≤ constant_of c op → v.side c j ≡ w.side c j) → after v op s ≡ after w op s
  one ns n (Is i k) s f h = ap (λ g. push s (eqb (g i) k)) values
  one ns n (Becomes i k) s f h = ap (λ g. push s (eqb (g i) k)) nexts
  one ns n (Stays i) s f h = ap (λ g. push s (eqb (g i) (v.value i))) nexts ∙ ap (λ g. push s (eqb (w.next i) (g i))) values
  one ns n (Clock o c j) s f h =
      let e : j ≤ cond (eqb c c) j 0 = omega (arith, own c j) in
      ap (λ x. push s (meets o x)) (h c j f.1 e)
  one ns n Always s f h = refl
  one ns n Not s f h = refl
  one ns n And s f h = refl
  one ns n Or s f h = refl

  -- the same from the bytes that are left, whatever the largest constants so far
  pub same : (ns : List ℕ) (n k s : ℕ) (hs : ℕ → ℕ) (bs : List ℕ) → ((c j : ℕ) → c < n → j ≤ scanned ns n c k (hs c) bs → v.side c j ≡ w.side c j) → judged ns n v k s bs ≡ judged ns n w k s bs
  unfolding judged scanned
  same ns n k s hs [] h = refl
  same ns n (ℕ.suc k) s hs (b ∷ bs) h = same ns n k s hs bs h
  same ns n ℕ.zero s hs (b ∷ bs) h =
      again (instruction ns n Transition 0 (b ∷ bs)) refl h (λ op t. same ns n (width op - 1) t (λ c. max (hs c) (constant_of c op)) bs)
    where
      again : (r : Result Instruction Fault) → instruction ns n Transition 0 (b ∷ bs) ≡ r → ((c j : ℕ) → c < n → j ≤ or_else (hs c) r (λ op. scanned ns n c (width op - 1) (max (hs c) (constant_of c op)) bs) → v.side c j ≡ w.side c j)
          → ((op : Instruction) (t : ℕ) → ((c j : ℕ) → c < n → j ≤ scanned ns n c (width op - 1) (max (hs c) (constant_of c op)) bs → v.side c j ≡ w.side c j) → judged ns n v (width op - 1) t bs ≡ judged ns n w (width op - 1) t bs)
          → on_ok r (λ op. judged ns n v (width op - 1) (after v op s) bs) ≡ on_ok r (λ op. judged ns n w (width op - 1) (after w op s) bs)
      again (Ok op) i g more =
          more op (after v op s) g
          ∙ ap (λ t. judged ns n w (width op - 1) t bs) (one ns n op s (reads ns n Transition 0 (b ∷ bs) op i).fit (λ c j d l. g c j d (omega (arith, rises ns n c (width op - 1) (max (hs c) (constant_of c op)) bs))))
      again (Err x) i g more = refl
