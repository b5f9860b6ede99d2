-- Step by step, what is left of a run leads on exactly when the whole does.
use Rattle.std.proofs.Common.{◌≡◌, ℕ, ◌+◌, ◌*◌, ◌<◌, ◌≤◌, Bool, true, false, cond, List, [], ◌∷◌, length, get_or, drop, Ok, Err, Result, sym, refl, ap, ◌∙◌, subst, arith}
use Rattle.std.proofs.lemmas.List.{at_drop_more, at_drop_all, drop_more, drop_all}
use Rattle.std.proofs.lemmas.Bool.{false≢true}
use Rattle.instruction.specs.declared.faults.Fault.{Fault}
use Rattle.instruction.specs.declared.faults.Fault.TheVariants.{RunNumbers}
use Rattle.judging.specs.Truth.{View}
use Rattle.kinds.specs.declared.steps.Step.{Step}
use Rattle.runs.specs.Checks.{fine, stepping}
use Rattle.runs.specs.Instants.{Tells}
use Rattle.tables.specs.Tables.{Table, asked}
use Rattle.runs.specs.declared.courses.Course.{Course}
use Rattle.runs.specs.Courses.{model_of, table_of}
use Rattle.runs.specs.Runs.{State, OneStep, waits, moves, Run, stop, on, Leads, now, view}

-- four clocks after i steps
abbrev pub Small : ℕ → List ℕ → Type 0
Small i xs = (get_or xs 0 0 ≤ i * 4294967296) × (get_or xs 1 0 ≤ i * 4294967296) × (get_or xs 2 0 ≤ i * 4294967296) × (get_or xs 3 0 ≤ i * 4294967296)

kept : (b : Bool) (x y : ℕ) → x ≤ y → cond b 0 x ≤ y
kept true x y h = omega arith
kept false x y h = h

pub stay-small : (T : Table) (D i : ℕ) (s : State) (p : Step) {t : State} → p.delay < 4294967296 → Small i s.clocks → OneStep T D s p t → Small (i + 1) t.clocks
stay-small T D i s p d h (waits k v e) = (omega (arith, h.0), omega (arith, h.1), omega (arith, h.2), omega (arith, h.3))
stay-small T D i s p d h (moves k v e) = (
  kept (T.reset 0 (view T D s p.valuation)) (get_or s.clocks 0 0) ((i + 1) * 4294967296) (omega (arith, h.0)),
  kept (T.reset 1 (view T D s p.valuation)) (get_or s.clocks 1 0) ((i + 1) * 4294967296) (omega (arith, h.1)),
  kept (T.reset 2 (view T D s p.valuation)) (get_or s.clocks 2 0) ((i + 1) * 4294967296) (omega (arith, h.2)),
  kept (T.reset 3 (view T D s p.valuation)) (get_or s.clocks 3 0) ((i + 1) * 4294967296) (omega (arith, h.3)),
)

-- steps from the left
module _ (S : ℕ) (steps : List Step) where
  pub fine_more : (i : ℕ) (d : Step) → i < length steps → fine S (get_or steps i d) ≡ true → stepping S i (drop i steps) ≡ stepping S (i + 1) (drop (i + 1) steps)
  unfolding stepping
  fine_more i d h f =
      let e : stepping S i (drop i steps) ≡ cond (fine S (get_or steps i d)) (stepping S (i + 1) (drop (i + 1) steps)) (Err (RunNumbers i)) = at_drop_more (stepping S i) steps i d h in
      e ∙ ap (λ b. cond b (stepping S (i + 1) (drop (i + 1) steps)) (Err (RunNumbers i))) f

  pub not-fine : (i : ℕ) (d : Step) → i < length steps → fine S (get_or steps i d) ≡ false → stepping S i (drop i steps) ≡ Err (RunNumbers i)
  unfolding stepping
  not-fine i d h f =
      let e : stepping S i (drop i steps) ≡ cond (fine S (get_or steps i d)) (stepping S (i + 1) (drop (i + 1) steps)) (Err (RunNumbers i)) = at_drop_more (stepping S i) steps i d h in
      e ∙ ap (λ b. cond b (stepping S (i + 1) (drop (i + 1) steps)) (Err (RunNumbers i))) f

  pub all-fine : (i : ℕ) → length steps ≤ i → stepping S i (drop i steps) ≡ Ok tt
  unfolding stepping
  all-fine i h = at_drop_all (stepping S i) steps i h

  -- where all steps are fine, each is
  pub each-fine : (i : ℕ) (d : Step) → i < length steps → stepping S i (drop i steps) ≡ Ok tt → fine S (get_or steps i d) ≡ true
  each-fine i d h e = go (fine S (get_or steps i d)) refl
    where
      go : (b : Bool) → fine S (get_or steps i d) ≡ b → b ≡ true
      go true f = refl
      go false f = absurd (let z : ◌≡◌ {A = Result (Unit {0}) Fault} (Err (RunNumbers i)) (Ok tt) = sym (not-fine i d h f) ∙ e in let y : ◌≡◌ {A = ℕ} 0 1 = cc in omega arith)

-- of a course, the steps lead from a state on to one in which the question holds
abbrev pub Leading : Course → List ℕ → State → List Step → Type 0
Leading course question s steps = Leads (table_of course) (asked question (model_of course)) course.unit s steps

module _ (T : Table) (q : View → Bool) (D : ℕ) where
  -- a step leads to one state only
  only : {s : State} {p : Step} {t u : State} → OneStep T D s p t → OneStep T D s p u → t ≡ u
  only (waits k v e) (waits i w f) = refl
  only (waits k v e) (moves i w f) = absurd (omega arith)
  only (moves k v e) (waits i w f) = absurd (omega arith)
  only (moves k v e) (moves i w f) = refl

  pub leads-on : (s t : State) (p : Step) (rest : List Step) → OneStep T D s p t → Leads T q D t rest → Leads T q D s (p ∷ rest)
  leads-on s t p rest o l = record { last = l.last; run = on p o l.run; asked = l.asked }

  cut : {s u : State} {p : Step} {rest : List Step} → Run T D s (p ∷ rest) u → (t : State) × OneStep T D s p t × Run T D t rest u
  cut (on p o r) = (_, o, r)

  pub leads-back : (s t : State) (p : Step) (rest : List Step) → OneStep T D s p t → Leads T q D s (p ∷ rest) → Leads T q D t rest
  leads-back s t p rest o l =
      let x = cut l.run in
      record { last = l.last; run = subst (λ y. Run T D y rest l.last) (only x.1 o) x.2; asked = l.asked }

  pub leads-nowhere : (s : State) (p : Step) (rest : List Step) → ((t : State) → OneStep T D s p t → ⊥) → Leads T q D s (p ∷ rest) → ⊥
  leads-nowhere s p rest h l = let x = cut l.run in h x.0 x.1

  ends : {s u : State} → Run T D s [] u → s ≡ u
  ends stop = refl

  pub leads-here : (s : State) → q (now T D s) ≡ true → Leads T q D s []
  leads-here s e = record { last = s; run = stop; asked = e }

  pub led-here : (s : State) → Leads T q D s [] → q (now T D s) ≡ true
  led-here s l = subst (λ y. q (now T D y) ≡ true) (sym (ends l.run)) l.asked

  -- the same as the loop goes
  module _ (steps : List Step) {A : Type 0} where
    pub ahead : (i : ℕ) (d : Step) (s t : State) → i < length steps → OneStep T D s (get_or steps i d) t → (Leads T q D s (drop i steps) → A) → Leads T q D t (drop (i + 1) steps) → A
    ahead i d s t h o f l = f (rw (drop_more steps i d h) (leads-on s t (get_or steps i d) (drop (i + 1) steps) o l))

    pub behind : (i : ℕ) (d : Step) (s t : State) → i < length steps → OneStep T D s (get_or steps i d) t → (A → Leads T q D s (drop i steps)) → A → Leads T q D t (drop (i + 1) steps)
    behind i d s t h o f a = leads-back s t (get_or steps i d) (drop (i + 1) steps) o (subst (Leads T q D s) (drop_more steps i d h) (f a))

    pub nowhere : (i : ℕ) (d : Step) (s : State) → i < length steps → ((t : State) → OneStep T D s (get_or steps i d) t → ⊥) → (A → Leads T q D s (drop i steps)) → Tells false A
    nowhere i d s h o f =
        record {
          yes = λ z. absurd (false≢true z);
          back = λ a. absurd (leads-nowhere s (get_or steps i d) (drop (i + 1) steps) o (subst (Leads T q D s) (drop_more steps i d h) (f a)));
        }

    pub arrived : (i : ℕ) (s : State) (r : Bool) → length steps ≤ i → r ≡ q (now T D s) → (Leads T q D s (drop i steps) → A) → (A → Leads T q D s (drop i steps)) → Tells r A
    arrived i s r h e f g =
        let none : drop i steps ≡ [] = drop_all i steps h in
        record {
          yes = λ z. f (subst (Leads T q D s) (sym none) (leads-here s (sym e ∙ z)));
          back = λ a. e ∙ led-here s (subst (Leads T q D s) none (g a));
        }
