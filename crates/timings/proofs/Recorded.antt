-- The theorems, of records.
use Rattle.std.proofs.Common.{◌≡◌, ℕ, true, List, [], ◌∷◌, length, sym, ap, subst}
use Rattle.ceilings.specs.Ceilings.{Ceilings, ceiling}
use Rattle.dense.specs.Trials.{dense}
use Rattle.judging.specs.Truth.{holds}
use Rattle.model.specs.declared.layout.Model.{Model}
use Rattle.model.specs.Promise.{laid}
use Rattle.model.specs.Reading.{layout}
use Rattle.model.specs.Systems.{System, Sound, Records}
use Rattle.tables.specs.Settings.{setting_in}
use Rattle.tables.specs.Tables.{table_in, table_of}
use Rattle.tables.proofs.Systems.{in-system}
use Rattle.ticked.specs.Trials.{ticked}
use Rattle.timings.specs.Theorems.{Exact, ExactWhole, DenseIsExact, TickedIsExact, DenseRuns, TickedRuns'}
use Rattle.timings.specs.Through.{Runs, DenseRegion, TickedRegion}
use Rattle.timings.proofs.Showing.{setting_of, shows, shows-any}
use Rattle.timings.proofs.Delays.{dense-runs}
use Rattle.timings.proofs.TickedDelays.{ticked-runs}
use Rattle.timings.proofs.Dense.{exact}
use Rattle.timings.proofs.Ticked.{exact-whole}

-- a record's setting is that of the system that it writes
setting-is : (bs : List ℕ) (m : Model) (ms : List ℕ) (k : System) → Ceilings bs (layout m) ms → Sound k → Records k bs → layout m ≡ laid k → setting_in bs m ms ≡ setting_of k
setting-is bs m ms k c sound r e =
    let a : table_in bs m ≡ table_of k = in-system bs m k sound r e in
    let b : m.sizes.clocks ≡ length k.resets = ap (λ y. y.clocks) e in
    let d : ms ≡ ceiling k 0 ∷ ceiling k 1 ∷ ceiling k 2 ∷ ceiling k 3 ∷ [] = c.means k sound r e in
    λ i. record { table = a i; clocks = b i; ceilings = d i }

pub dense-is-exact : (bs : List ℕ) (m : Model) (ms : List ℕ) → Ceilings bs (layout m) ms → DenseIsExact bs m ms
dense-is-exact bs m ms c k sound r e q f w =
    subst (λ K. Exact (dense K) (table_of k) (λ v. holds v f)) (sym (setting-is bs m ms k c sound r e)) (exact (setting_of k) (λ v. holds v f) (shows k sound f q w))

pub ticked-is-exact : (bs : List ℕ) (m : Model) (ms : List ℕ) → Ceilings bs (layout m) ms → TickedIsExact bs m ms
ticked-is-exact bs m ms c k sound r e q f w =
    subst (λ K. ExactWhole (ticked K) (table_of k) (λ v. holds v f)) (sym (setting-is bs m ms k c sound r e)) (exact-whole (setting_of k) (λ v. holds v f) (shows k sound f q w))

pub dense-runs-so : (bs : List ℕ) (m : Model) (ms : List ℕ) → Ceilings bs (layout m) ms → DenseRuns bs m ms
dense-runs-so bs m ms c k sound r e =
    subst (λ K. Runs (dense K) (table_of k) (DenseRegion K)) (sym (setting-is bs m ms k c sound r e)) (dense-runs (setting_of k) (λ _. true) (shows-any k sound))

pub ticked-runs-so : (bs : List ℕ) (m : Model) (ms : List ℕ) → Ceilings bs (layout m) ms → TickedRuns' bs m ms
ticked-runs-so bs m ms c k sound r e =
    subst (λ K. Runs (ticked K) (table_of k) (TickedRegion K)) (sym (setting-is bs m ms k c sound r e)) (ticked-runs (setting_of k) (λ _. true) (shows-any k sound))
