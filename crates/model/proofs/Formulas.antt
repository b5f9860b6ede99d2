-- A formula behind its count: what is accepted, what is refused, and that nothing else is.
use Rattle.std.proofs.Common.{◌≡◌, ℕ, ◌+◌, ◌-◌, ◌*◌, ◌≤◌, Bool, true, false, cond, leb, List, [], ◌∷◌, ◌++◌, length, take, drop, Ok, Err, sym, refl, ap, ◌∙◌, ⊎_elim, arith}
use Rattle.std.proofs.lemmas.List.{take_at, drop_at, take-append-drop, length-append, length-drop, length-take-le}
use Rattle.std.proofs.lemmas.Bool.{leb-true, leb-false, le-leb}
use Rattle.instruction.specs.declared.faults.Fault.{Fault}
use Rattle.instruction.specs.declared.faults.Fault.TheVariants.{Ended, TooLong}
use Rattle.instruction.specs.declared.sections.Section.{Section}
use Rattle.instruction.specs.Faults.{refusal}
use Rattle.formula.specs.Formulas.{Formula, written}
use Rattle.instruction.specs.Reader.{and_then}
use Rattle.formula.specs.Reader.{walk}
use Rattle.instruction.proofs.Inverse.{tested, and_then-ok, never-ok}
use Rattle.instruction.proofs.Broken.{and_then-err, never, fault-is}
use Rattle.formula.proofs.Through.{accepted}
use Rattle.formula.proofs.Back.{was-written}
use Rattle.formula.proofs.Front.{was-refused}
use Rattle.model.specs.declared.layout.Span.{Span}
use Rattle.model.specs.Systems.{Fits}
use Rattle.model.specs.Reading.{cut, span}
use Rattle.model.specs.Faults.{Unread, no_count, too_long, cut_off, inside}

-- a formula that was cut off the front
pub record Was (ns : List ℕ) (n : ℕ) (s : Section) (left rest : List ℕ) : Type 0 where
  pub tree : Formula
  pub fits : Fits ns n s tree
  pub high : ℕ
  pub low : ℕ
  pub count : high * 256 + low ≡ length (written tree)
  pub bytes : left ≡ high ∷ low ∷ (written tree ++ rest)

module _ (ns : List ℕ) (n end : ℕ) (s : Section) where
  pub cut-through : (f : Formula) (h l at : ℕ) (rest : List ℕ) → Fits ns n s f → h * 256 + l ≡ length (written f) → end ≡ at + 2 + length (written f ++ rest) → cut ns n end s (h ∷ l ∷ (written f ++ rest)) ≡ Ok (span (at + 2) (length (written f)), rest)
  cut-through f h l at rest fits c e =
      let few : leb (h * 256 + l) 2000 ≡ true = le-leb (h * 256 + l) 2000 (omega (arith, fits.short)) in
      let all : leb (h * 256 + l) (length (written f ++ rest)) ≡ true = le-leb (h * 256 + l) (length (written f ++ rest)) (omega (arith, length-append (written f) rest)) in
      let code : take (h * 256 + l) (written f ++ rest) ≡ written f = take_at (written f) rest (h * 256 + l) (sym c) in
      let behind : drop (h * 256 + l) (written f ++ rest) ≡ rest = drop_at (written f) rest (h * 256 + l) (sym c) in
      let w = accepted ns n s (end - length (written f ++ rest) + (h * 256 + l)) (take (h * 256 + l) (written f ++ rest)) f (record { bytes = code; allowed = fits.allowed; shallow = fits.shallow }) in
      let place : end - length (written f ++ rest) ≡ at + 2 = omega arith in
      simp (few, all, w) (ap (λ p. Ok (p, drop (h * 256 + l) (written f ++ rest))) (ap (λ a. span a (h * 256 + l)) place ∙ ap (span (at + 2)) c) ∙ ap (λ t. Ok (span (at + 2) (length (written f)), t)) behind)

  pub cut-was : (left rest : List ℕ) (p : Span) → cut ns n end s left ≡ Ok (p, rest) → Was ns n s left rest
  cut-was [] rest p e = never-ok _ (p, rest) _ e
  cut-was (h ∷ []) rest p e = never-ok _ (p, rest) _ e
  cut-was (h ∷ l ∷ bs) rest p e =
      let x = tested (leb (h * 256 + l) 2000) _ _ (p, rest) e in
      let y = tested (leb (h * 256 + l) (length bs)) _ _ (p, rest) x.1 in
      let z = and_then-ok (walk ns n s (end - length bs + (h * 256 + l)) 0 0 (take (h * 256 + l) bs)) _ (p, rest) y.1 in
      let few : h * 256 + l ≤ 2000 = leb-true (h * 256 + l) 2000 x.0 in
      let all : h * 256 + l ≤ length bs = leb-true (h * 256 + l) (length bs) y.0 in
      let w = was-written ns n s (end - length bs + (h * 256 + l)) (take (h * 256 + l) bs) z.1 in
      let pair : ◌≡◌ {A = Span × List ℕ} (span (end - length bs) (h * 256 + l), drop (h * 256 + l) bs) (p, rest) = cc z.2 in
      let behind : drop (h * 256 + l) bs ≡ rest = ap (λ q. q.1) pair in
      let size : length (written w.0) ≡ h * 256 + l = ap length (sym w.1.bytes) ∙ length-take-le (h * 256 + l) bs all in
      let whole : bs ≡ written w.0 ++ rest = sym (take-append-drop (h * 256 + l) bs) ∙ ap (λ t. t ++ drop (h * 256 + l) bs) w.1.bytes ∙ ap (λ t. written w.0 ++ t) behind in
      record { tree = w.0; fits = record { allowed = w.1.allowed; shallow = w.1.shallow; short = omega arith }; high = h; low = l; count = sym size; bytes = ap (λ t. h ∷ l ∷ t) whole }

  pub cut-refused : (left : List ℕ) (x : Fault) → length left ≤ end → cut ns n end s left ≡ Err x → Unread ns n s end left (refusal x)
  cut-refused [] x le e = fault-is (Unread ns n s end []) (Ended s end) x e (no_count (omega arith))
  cut-refused (h ∷ []) x le e = fault-is (Unread ns n s end (h ∷ [])) (Ended s end) x e (no_count (omega arith))
  cut-refused (h ∷ l ∷ bs) x le e = outer (leb (h * 256 + l) 2000) refl e
    where
      within : h * 256 + l ≤ 2000 → h * 256 + l ≤ length bs → walk ns n s (end - length bs + (h * 256 + l)) 0 0 (take (h * 256 + l) bs) ≡ Err x → Unread ns n s end (h ∷ l ∷ bs) (refusal x)
      within few all f =
          let r = was-refused ns n s (end - length bs + (h * 256 + l)) (take (h * 256 + l) bs) x f in
          let size : h * 256 + l ≡ length (take (h * 256 + l) bs) = sym (length-take-le (h * 256 + l) bs all) in
          let past : end - length bs + (h * 256 + l) ≡ end - length (drop (h * 256 + l) bs) = omega (arith, length-drop (h * 256 + l) bs) in
          inside h l (take (h * 256 + l) bs) (drop (h * 256 + l) bs) (refusal x) (ap (λ t. h ∷ l ∷ t) (sym (take-append-drop (h * 256 + l) bs))) size (omega arith) (rw past at r)

      inner : (b : Bool) → leb (h * 256 + l) (length bs) ≡ b → h * 256 + l ≤ 2000 → cond b (and_then {B = Span × List ℕ} (walk ns n s (end - length bs + (h * 256 + l)) 0 0 (take (h * 256 + l) bs)) (λ _. Ok (span (end - length bs) (h * 256 + l), drop (h * 256 + l) bs))) (Err (Ended s end)) ≡ Err x → Unread ns n s end (h ∷ l ∷ bs) (refusal x)
      inner true t few e =
          ⊎_elim (λ f. within few (leb-true (h * 256 + l) (length bs) t) f) (λ y. never _ x _ y.2)
          (and_then-err (walk ns n s (end - length bs + (h * 256 + l)) 0 0 (take (h * 256 + l) bs)) (λ _. Ok (span (end - length bs) (h * 256 + l), drop (h * 256 + l) bs)) x e)
      inner false t few e = fault-is (Unread ns n s end (h ∷ l ∷ bs)) (Ended s end) x e (cut_off h l bs refl few (leb-false (h * 256 + l) (length bs) t))

      outer : (b : Bool) → leb (h * 256 + l) 2000 ≡ b → cond b (cond (leb (h * 256 + l) (length bs)) (and_then {B = Span × List ℕ} (walk ns n s (end - length bs + (h * 256 + l)) 0 0 (take (h * 256 + l) bs)) (λ _. Ok (span (end - length bs) (h * 256 + l), drop (h * 256 + l) bs))) (Err (Ended s end))) (Err (TooLong s (end - length (h ∷ l ∷ bs)))) ≡ Err x → Unread ns n s end (h ∷ l ∷ bs) (refusal x)
      outer true t e = inner (leb (h * 256 + l) (length bs)) refl (leb-true (h * 256 + l) 2000 t) e
      outer false t e = fault-is (Unread ns n s end (h ∷ l ∷ bs)) (TooLong s (end - length (h ∷ l ∷ bs))) x e (too_long h l bs refl (leb-false (h * 256 + l) 2000 t))
