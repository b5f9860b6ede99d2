-- The bytes are those of one formula only.
use Rattle.std.proofs.Common.{◌≡◌, ℕ, ◌-◌, List, [], ◌∷◌, ◌++◌, length, get_or, Ok, Err, Result, sym, refl, ap, ◌∙◌, append_assoc, append-nil}
use Rattle.std.proofs.lemmas.Bool.{lt-ltb, le-leb}
use Rattle.instruction.specs.declared.faults.Fault.{Fault}
use Rattle.instruction.specs.declared.instructions.Compare.TheVariants.{Less, AtMost, Exactly, AtLeast, More}
use Rattle.instruction.specs.declared.sections.Section.{Section}
use Rattle.instruction.specs.declared.sections.Section.TheVariants.{Transition}
use Rattle.instruction.specs.declared.instructions.Instruction.{Instruction}
use Rattle.instruction.specs.declared.instructions.Instruction.TheVariants.{Is, Becomes, Stays, Clock, Always, Not, And, Or}
use Rattle.formula.specs.Formulas.{Formula, is, becomes, stays, clock, always, not, and, or, written, Allowed, Writes}
use Rattle.instruction.specs.Reader.{instruction, width}

abbrev grow : Instruction → List Formula → List Formula
grow (Is i k) ts = is i k ∷ ts
grow (Becomes i k) ts = becomes i k ∷ ts
grow (Stays i) ts = stays i ∷ ts
grow (Clock o c j) ts = clock o c j ∷ ts
grow Always ts = always ∷ ts
grow Not [] = []
grow Not (t ∷ ts) = not t ∷ ts
grow And [] = []
grow And (t ∷ []) = []
grow And (u ∷ t ∷ ts) = and t u ∷ ts
grow Or [] = []
grow Or (t ∷ []) = []
grow Or (u ∷ t ∷ ts) = or t u ∷ ts

abbrev on_ok : Result Instruction Fault → (Instruction → List Formula) → List Formula
on_ok (Ok op) f = f op
on_ok (Err e) f = []

module _ (ns : List ℕ) (n : ℕ) (s : Section) where
  unfoldable built : ℕ → List Formula → List ℕ → List Formula
  built k ts [] = ts
  built (ℕ.suc k) ts (b ∷ bs) = built k ts bs
  built ℕ.zero ts (b ∷ bs) = on_ok (instruction ns n Transition 0 (b ∷ bs)) (λ op. built (width op - 1) (grow op ts) bs)

  through : (f : Formula) (ts : List Formula) (rest : List ℕ) → Allowed s ns n f → built 0 ts (written f ++ rest) ≡ built 0 (f ∷ ts) rest
  unfolding built written Allowed
  through (is i x) ts rest p = simp (lt-ltb i (length ns) p.0, lt-ltb x (get_or ns i 0) p.1)
  through (becomes i x) ts rest p = simp (lt-ltb i (length ns) p.1, lt-ltb x (get_or ns i 0) p.2)
  through (stays i) ts rest p = simp (lt-ltb i (length ns) p.1)
  through (clock Less c j) ts rest p = simp (lt-ltb c n p.1, le-leb j 250 p.2)
  through (clock AtMost c j) ts rest p = simp (lt-ltb c n p.1, le-leb j 250 p.2)
  through (clock Exactly c j) ts rest p = simp (lt-ltb c n p.1, le-leb j 250 p.2)
  through (clock AtLeast c j) ts rest p = simp (lt-ltb c n p.1, le-leb j 250 p.2)
  through (clock More c j) ts rest p = simp (lt-ltb c n p.1, le-leb j 250 p.2)
  through always ts rest p = refl
  through (not f) ts rest p = simp append_assoc (through f ts (33 ∷ rest) p)
  through (and f g) ts rest p = simp append_assoc (through f ts (written g ++ (38 ∷ rest)) p.0 ∙ through g (f ∷ ts) (38 ∷ rest) p.1)
  through (or f g) ts rest p = simp append_assoc (through f ts (written g ++ (124 ∷ rest)) p.0 ∙ through g (f ∷ ts) (124 ∷ rest) p.1)

  alone : (bs : List ℕ) (f : Formula) → Writes ns n s bs f → built 0 [] bs ≡ f ∷ []
  unfolding built
  alone bs f h = ap (λ l. built 0 [] l) (h.bytes ∙ sym (append-nil (written f))) ∙ through f [] [] h.allowed

  pub unique : (bs : List ℕ) (f g : Formula) → Writes ns n s bs f → Writes ns n s bs g → f ≡ g
  unique bs f g h k = let x = alone bs f h in let y = alone bs g k in cc
