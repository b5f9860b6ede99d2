-- Of four clocks the last that are over change nothing for the others when gaps are closed.
use Rattle.std.proofs.Common.{◌≡◌, ℕ, ◌≤◌, List, ap, ◌∙◌, arith}
use mathlib.Core.Path.{fun_ext}
use Rattle.regions.specs.declared.clocks.Clock.{Clock}
use Rattle.regions.specs.Regions.{any_sharp, closed, renamed, tidy}
use Rattle.regions.specs.Clocks.{at, four_of, Padded}
use Rattle.regions.proofs.Closing.{renamed-same}
use Rattle.regions.proofs.Fours.{spread}
use Rattle.regions.proofs.Padding.{closed-less, sharp-less, to-four}

tidy-fewer : (n : ℕ) (f : ℕ → Clock) → n ≤ 4 → Padded n f → (c : ℕ) → tidy 4 f c ≡ tidy n f c
tidy-fewer n f h p c =
    to-four (λ k. tidy k f c) f (λ k o. renamed-same (closed (ℕ.suc k) f) (closed k f) (closed-less k f o) (f c)) n h p

-- and no clock that is over is on a whole number
pub sharp-fewer : (n : ℕ) (f : ℕ → Clock) → n ≤ 4 → Padded n f → any_sharp 4 f ≡ any_sharp n f
sharp-fewer n f h p = to-four (λ k. any_sharp k f) f (λ k. sharp-less k f) n h p

-- four clocks with their gaps closed, as n of them
pub tidy-at : (n : ℕ) (f : ℕ → Clock) (r : List Clock) → r ≡ four_of (tidy 4 f) → n ≤ 4 → Padded n f → at r ≡ tidy n f
tidy-at n f r e h p =
    ap at e ∙ spread (tidy 4 f) (λ c i. ap (renamed (closed 4 f)) (p c (omega arith))) ∙ fun_ext (tidy-fewer n f h p)
