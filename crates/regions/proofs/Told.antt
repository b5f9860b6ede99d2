-- The promises, from what the answers are.
use Rattle.std.proofs.Common.{◌≡◌, ℕ, Bool, true, List, length, sym, ap, ◌∙◌}
use Rattle.regions.specs.declared.clocks.Clock.{Clock}
use Rattle.regions.specs.declared.places.Place.{Place}
use Rattle.regions.specs.Regions.{tidy, after}
use Rattle.regions.specs.Clocks.{at, four_of, limit, trim_all, capped, hit, restarted}
use Rattle.regions.specs.Gaps.{Gapless}
use Rattle.regions.specs.Sameness.{same_place}
use Rattle.regions.specs.Promise.{Elapsed, Cleared, Tells}
use Rattle.regions.proofs.Alike.{alike-one}
use Rattle.regions.proofs.Keeping.{exact, keeps, restarts, restarts-keep}
use Rattle.regions.proofs.Padding.{elapse-pads, reset-pads}
use Rattle.regions.proofs.Same.{place-by, same-is, same-itself}

pub elapse-told : (ps : List Clock) (ms : List ℕ) (r : List Clock) → r ≡ four_of (after 4 (limit ms) (trim_all ms ps)) → Gapless 4 (at r) → Elapsed ms ps r
elapse-told ps ms r e g =
    record { value = e; exact = exact ps ms r e; sound = keeps ps ms r e; gapless = g; padded = elapse-pads ps ms r e }

pub reset-told : (ps : List Clock) (bs : List Bool) (r : List Clock) → r ≡ four_of (tidy 4 (λ c. capped (restarted (hit bs c) (at ps c)))) → Gapless 4 (at r) → Cleared bs ps r
reset-told ps bs r e g =
    record { value = e; exact = restarts ps bs r e; sound = restarts-keep ps bs r e; gapless = g; padded = reset-pads ps bs r e }

pub same-told : (p q : Place) (r : Bool) → length p.clocks ≡ 4 → length q.clocks ≡ 4 → r ≡ same_place p q → Tells p q r
same-told p q r m n e =
    let back : p ≡ q → r ≡ true = λ x. e ∙ ap (λ y. same_place p y) (sym x) ∙ same-itself p in
    record { answer = e; equal = λ t. same-is p q (sym e ∙ t); back = back; alike = λ g h a v. back (place-by p q v (alike-one p.clocks q.clocks m n g h a)) }
