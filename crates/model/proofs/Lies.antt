-- Each part of a record is the formula that the system has there.
use Rattle.std.proofs.Common.{◌≡◌, ℕ, ◌+◌, List, [], ◌∷◌, ◌++◌, length, take, drop, sym, refl, ap, ◌∙◌, append_assoc, arith, length-append}
use Rattle.std.proofs.lemmas.List.{take_at, drop_at}
use Rattle.formula.specs.Formulas.{Formula, written}
use Rattle.model.specs.Systems.{System, Sound, Row, none, more, Records}
use Rattle.model.specs.Promise.{spans, past, laid, HoldAll, Lies}

module _ (bs : List ℕ) where
  row_lies : {fs : List Formula} {row : List ℕ} (at : ℕ) (front : List ℕ) → Row fs row → length front ≡ at → bs ≡ front ++ row → HoldAll bs (spans at fs) fs
  unfolding spans
  row_lies at front none n e = tt
  row_lies at front (more h l f fs row c r) n e =
      let counted : List ℕ = front ++ (h ∷ l ∷ []) in
      let behind : bs ≡ counted ++ (written f ++ row) = e ∙ sym (append_assoc front (h ∷ l ∷ []) (written f ++ row)) in
      let long : length counted ≡ at + 2 = simp length-append (omega arith) in
      let dropped : drop (at + 2) bs ≡ written f ++ row = ap (drop (at + 2)) behind ∙ drop_at counted (written f ++ row) (at + 2) long in (
        ap (take (length (written f))) dropped ∙ take_at (written f) row (length (written f)) refl,
        row_lies (at + 2 + length (written f)) (counted ++ written f) r (simp length-append (omega arith)) (behind ∙ sym (append_assoc counted (written f) row)),
      )

  apart : (fs gs : List Formula) (at : ℕ) → HoldAll bs (spans at (fs ++ gs)) (fs ++ gs) → HoldAll bs (spans at fs) fs × HoldAll bs (spans (past at fs) gs) gs
  unfolding spans past
  apart [] gs at h = (tt, h)
  apart (f ∷ fs) gs at h = let x = apart fs gs (at + 2 + length (written f)) h.1 in ((h.0, x.0), x.1)

pub lies : (bs : List ℕ) (m : System) → Sound m → Records m bs → Lies bs (laid m) m
unfolding spans
lies bs m p r =
    let front : List ℕ = length m.counts ∷ (m.counts ++ (length m.resets ∷ [])) in
    let long : length front ≡ 2 + length m.counts = simp length-append (omega arith) in
    let whole : bs ≡ front ++ r.row = r.bytes ∙ ap (λ l. length m.counts ∷ l) (sym (append_assoc m.counts (length m.resets ∷ []) r.row)) in
    let all = row_lies bs (2 + length m.counts) front r.rows long whole in
    let x = apart bs m.resets (m.start ∷ m.invariant ∷ m.transition ∷ m.urgent ∷ []) (2 + length m.counts) all in
    record { counts = refl; clocks = refl; resets = x.0; start = x.1.0; invariant = x.1.1.0; transition = x.1.1.1.0; urgent = x.1.1.1.1.0 }
