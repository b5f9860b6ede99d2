-- The whole promise of the reader from its answer.
use Rattle.std.proofs.Common.{◌≡◌, ℕ, ◌+◌, List, length, drop, Ok, Err, Result, sym, ap, ◌∙◌, arith}
use Rattle.instruction.specs.declared.faults.Fault.{Fault}
use Rattle.sizes.specs.Reading.{sizing}
use Rattle.model.specs.Reading.{Layout, sections, reading}
use Rattle.model.specs.Promise.{Reads, laid}
use Rattle.model.proofs.Begins.{reading-was, reading-refused}
use Rattle.model.proofs.Reaches.{reading-through}
use Rattle.model.proofs.Unique.{unique}
use Rattle.model.proofs.Lies.{lies}

-- the answer from its parts, as the code has them
pub read_by : (bs ns left : List ℕ) (n : ℕ) (r : Result Layout Fault) → Ok (ns, n) ≡ sizing bs → left ≡ drop (length ns + 2) bs → r ≡ sections ns n (length bs) left → r ≡ reading bs
read_by bs ns left n r e cut f =
    let two : length ns + 2 ≡ 2 + length ns = omega arith in
    let same : left ≡ drop (2 + length ns) bs = cut ∙ ap (λ k. drop k bs) two in
    simp (sym e) (f ∙ ap (sections ns n (length bs)) same)

pub refused-by : (bs : List ℕ) (x : Fault) → Err x ≡ sizing bs → Err x ≡ reading bs
refused-by bs x e = simp (sym e)

pub promised : (bs : List ℕ) (r : Result Layout Fault) → r ≡ reading bs → Reads bs r
promised bs r e =
    record {
      answer = e;
      accepts = λ m s w. e ∙ reading-through m bs s w;
      accepted = λ y h.
          let m = reading-was bs y (sym e ∙ h) in
          let same : Ok y ≡ Ok (laid m.0) = sym h ∙ e ∙ reading-through m.0 bs m.1 m.2 in
          let laid-is : y ≡ laid m.0 = cc in
          (m.0, m.1, m.2, laid-is);
      unique = unique bs;
      lies = lies bs;
      refused = λ x h. reading-refused bs x (sym e ∙ h);
    }
