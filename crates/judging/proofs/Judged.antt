-- One turn of the judging loop, and what it makes of a formula.
use Rattle.std.proofs.Common.{◌≡◌, ℕ, ◌+◌, ◌-◌, ◌*◌, ◌^◌, ◌<◌, ◌≤◌, Bool, true, false, not as flip, ◌&&◌, ◌||◌, List, [], ◌∷◌, ◌++◌, length, get_or, drop, Ok, Err, sym, refl, ap, ◌∙◌, subst, append_assoc, append-nil, arith}
use Rattle.std.proofs.lemmas.Bool.{lt-ltb, le-leb}
use Rattle.instruction.specs.declared.faults.Fault.{Fault}
use Rattle.instruction.specs.declared.instructions.Compare.TheVariants.{Less, AtMost, Exactly, AtLeast, More}
use Rattle.instruction.specs.declared.sections.Section.{Section}
use Rattle.instruction.specs.declared.sections.Section.TheVariants.{Transition}
use Rattle.instruction.specs.declared.instructions.Instruction.{Instruction}
use Rattle.instruction.specs.declared.instructions.Instruction.TheVariants.{Not, And, Or}
use Rattle.formula.specs.Formulas.{Formula, is, becomes, stays, clock, always, not, and, or, written, depth, Allowed, Writes}
use Rattle.judging.specs.Truth.{View, holds}
use Rattle.instruction.specs.Reader.{instruction, width}
use Rattle.judging.specs.Judging.{judged, after, low, bit}
use Rattle.judging.proofs.Bits.{small, grows, low_of, rest_of, rest-of-two}

deep : (f : Formula) → 1 ≤ depth f
unfolding depth
deep (is i k) = omega arith
deep (becomes i k) = omega arith
deep (stays i) = omega arith
deep (clock o c j) = omega arith
deep always = omega arith
deep (not f) = deep f
deep (and f g) = omega (arith, deep f)
deep (or f g) = omega (arith, deep f)

module _ (ns : List ℕ) (n : ℕ) (v : View) where
  skip : (k s : ℕ) (bs : List ℕ) → judged ns n v k s bs ≡ judged ns n v 0 s (drop k bs)
  unfolding judged
  skip ℕ.zero s bs = refl
  skip (ℕ.suc k) s [] = refl
  skip (ℕ.suc k) s (b ∷ bs) = skip k s bs

  pub turn : (s at : ℕ) (op : Instruction) (bs : List ℕ) → at ≡ 0 → 0 < length bs → 1 ≤ width op → instruction ns n Transition at bs ≡ Ok op → judged ns n v 0 s bs ≡ judged ns n v 0 (after v op s) (drop (width op) bs)
  unfolding judged
  turn s at op [] p some pos e = absurd (omega arith)
  turn s at op (b ∷ bs) p some pos e =
      let back : ℕ.suc (width op - 1) ≡ width op = omega arith in
      let i : instruction ns n Transition 0 (b ∷ bs) ≡ Ok op = subst (λ a. instruction ns n Transition a (b ∷ bs) ≡ Ok op) p e in
      simp i (skip (width op - 1) (after v op s) bs ∙ ap (λ k. judged ns n v 0 (after v op s) (drop k (b ∷ bs))) back)

  pub no-op : (s at : ℕ) (x : Fault) (bs : List ℕ) → at ≡ 0 → 0 < length bs → instruction ns n Transition at bs ≡ Err x → judged ns n v 0 s bs ≡ false
  unfolding judged
  no-op s at x [] p some e = absurd (omega arith)
  no-op s at x (b ∷ bs) p some e =
      let i : instruction ns n Transition 0 (b ∷ bs) ≡ Err x = subst (λ a. instruction ns n Transition a (b ∷ bs) ≡ Err x) p e in
      simp i

  pub ended : (s : ℕ) (bs : List ℕ) → length bs ≡ 0 → judged ns n v 0 s bs ≡ low s
  unfolding judged
  ended s [] e = refl
  ended s (b ∷ bs) e = absurd (omega arith)

  module _ (z : Section) where
    through : (f : Formula) (s k : ℕ) (rest : List ℕ) → Allowed z ns n f → s < 2 ^ k → k + depth f ≤ 32 → judged ns n v 0 s (written f ++ rest) ≡ judged ns n v 0 (s * 2 + bit (holds v f)) rest
    unfolding judged written depth Allowed holds
    through (is i x) s k rest p h d = simp (lt-ltb i (length ns) p.0, lt-ltb x (get_or ns i 0) p.1) (ap (λ t. judged ns n v 0 t rest) (small s k (holds v (is i x)) h d))
    through (becomes i x) s k rest p h d = simp (lt-ltb i (length ns) p.1, lt-ltb x (get_or ns i 0) p.2) (ap (λ t. judged ns n v 0 t rest) (small s k (holds v (becomes i x)) h d))
    through (stays i) s k rest p h d = simp (lt-ltb i (length ns) p.1) (ap (λ t. judged ns n v 0 t rest) (small s k (holds v (stays i)) h d))
    through (clock Less c j) s k rest p h d = simp (lt-ltb c n p.1, le-leb j 250 p.2) (ap (λ t. judged ns n v 0 t rest) (small s k (holds v (clock Less c j)) h d))
    through (clock AtMost c j) s k rest p h d = simp (lt-ltb c n p.1, le-leb j 250 p.2) (ap (λ t. judged ns n v 0 t rest) (small s k (holds v (clock AtMost c j)) h d))
    through (clock Exactly c j) s k rest p h d = simp (lt-ltb c n p.1, le-leb j 250 p.2) (ap (λ t. judged ns n v 0 t rest) (small s k (holds v (clock Exactly c j)) h d))
    through (clock AtLeast c j) s k rest p h d = simp (lt-ltb c n p.1, le-leb j 250 p.2) (ap (λ t. judged ns n v 0 t rest) (small s k (holds v (clock AtLeast c j)) h d))
    through (clock More c j) s k rest p h d = simp (lt-ltb c n p.1, le-leb j 250 p.2) (ap (λ t. judged ns n v 0 t rest) (small s k (holds v (clock More c j)) h d))
    through always s k rest p h d = ap (λ t. judged ns n v 0 t rest) (small s k true h d)
    through (not f) s k rest p h d =
        let x : Bool = holds v f in
        let room : k + 1 ≤ 32 = omega (arith, deep f) in
        let e : after v Not (s * 2 + bit x) ≡ s * 2 + bit (flip x) = simp (rest_of s x, low_of s x) (small s k (flip x) h room) in
        simp append_assoc (through f s k (33 ∷ rest) p h d ∙ ap (λ t. judged ns n v 0 t rest) e)
    through (and f g) s k rest p h d =
        let x : Bool = holds v f in
        let y : Bool = holds v g in
        let room : k + 1 ≤ 32 = omega (arith, deep f) in
        let e : after v And ((s * 2 + bit x) * 2 + bit y) ≡ s * 2 + bit (x && y) = simp (rest-of-two s x y, rest_of (s * 2 + bit x) y, low_of s x, low_of (s * 2 + bit x) y) (small s k (x && y) h room) in
        simp append_assoc (through f s k (written g ++ (38 ∷ rest)) p.0 h (omega arith) ∙ through g (s * 2 + bit x) (k + 1) (38 ∷ rest) p.1 (grows s k x h) (omega arith) ∙ ap (λ t. judged ns n v 0 t rest) e)
    through (or f g) s k rest p h d =
        let x : Bool = holds v f in
        let y : Bool = holds v g in
        let room : k + 1 ≤ 32 = omega (arith, deep f) in
        let e : after v Or ((s * 2 + bit x) * 2 + bit y) ≡ s * 2 + bit (x || y) = simp (rest-of-two s x y, rest_of (s * 2 + bit x) y, low_of s x, low_of (s * 2 + bit x) y) (small s k (x || y) h room) in
        simp append_assoc (through f s k (written g ++ (124 ∷ rest)) p.0 h (omega arith) ∙ through g (s * 2 + bit x) (k + 1) (124 ∷ rest) p.1 (grows s k x h) (omega arith) ∙ ap (λ t. judged ns n v 0 t rest) e)

    pub means : (bs : List ℕ) (f : Formula) → Writes ns n z bs f → judged ns n v 0 0 bs ≡ holds v f
    unfolding judged
    means bs f h = ap (λ l. judged ns n v 0 0 l) (h.bytes ∙ sym (append-nil (written f))) ∙ through f 0 0 [] h.allowed (omega arith) (omega (arith, h.shallow)) ∙ low_of 0 (holds v f)
