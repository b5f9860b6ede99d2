-- All sections from their parts, as the code has them.
use Rattle.std.proofs.Common.{◌≡◌, ℕ, ◌-◌, ◌<◌, List, [], ◌∷◌, length, Ok, Err, sym, refl, arith}
use Rattle.instruction.specs.declared.faults.Fault.TheVariants.{Trailing}
use Rattle.instruction.specs.declared.sections.Section.TheVariants.{Start, Invariant, Transition, Urgent}
use Rattle.model.specs.declared.layout.Span.{Span}
use Rattle.model.specs.Reading.{Layout, cut, resetting, finish, sections}

pub finish-more : (y : Layout) (end : ℕ) (bs : List ℕ) → 0 < length bs → finish y end bs ≡ Err (Trailing (end - length bs))
finish-more y end [] e = absurd (omega arith)
finish-more y end (b ∷ bs) e = refl

pub sections-are : (ns : List ℕ) (n end : ℕ) (left r0 r1 r2 r3 r4 : List ℕ) (ps : List Span) (a b c d : Span)
    → Ok (ps, r0) ≡ resetting ns n end n [] left → Ok (a, r1) ≡ cut ns n end Start r0 → Ok (b, r2) ≡ cut ns n end Invariant r1 → Ok (c, r3) ≡ cut ns n end Transition r2 → Ok (d, r4) ≡ cut ns n end Urgent r3
    → sections ns n end left ≡ finish (record { counts = ns; clocks = n; resets = ps; start = a; invariant = b; transition = c; urgent = d }) end r4
sections-are ns n end left r0 r1 r2 r3 r4 ps a b c d e0 e1 e2 e3 e4 = simp (sym e0, sym e1, sym e2, sym e3, sym e4)
