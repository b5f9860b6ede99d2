-- Formula by formula, a good beginning grows until a rule is broken or the record ends.
use Rattle.std.proofs.Common.{◌≡◌, ℕ, ◌+◌, ◌-◌, ◌*◌, ◌≤◌, List, [], ◌∷◌, ◌++◌, length, drop, replicate, Ok, Err, sym, refl, ap, ◌∙◌, subst, ⊎_elim, append_assoc, append-nil, arith}
use Rattle.std.proofs.lemmas.List.{length-append}
use Rattle.instruction.specs.declared.faults.Fault.{Fault}
use Rattle.instruction.specs.declared.faults.Fault.TheVariants.{Trailing}
use Rattle.instruction.specs.declared.sections.Section.{Section}
use Rattle.instruction.specs.declared.sections.Section.TheVariants.{Clocks, Start, Invariant, Transition, Urgent}
use Rattle.instruction.specs.Faults.{told, refusal}
use Rattle.formula.specs.Formulas.{Formula, written}
use Rattle.instruction.proofs.Inverse.{and_then-ok, never-ok}
use Rattle.instruction.proofs.Broken.{and_then-err, never, fault-is}
use Rattle.model.specs.declared.layout.Span.{Span}
use Rattle.model.specs.Systems.{System, Sound, Records, Fits, Stand, Row, none, more, order}
use Rattle.model.specs.Reading.{Layout, cut, resetting, finish, sections, reading}
use Rattle.model.specs.Faults.{Begun, Broken, bad_sizes, bad_formula, more_bytes}
use Rattle.model.proofs.Formulas.{Was, cut-was, cut-refused}
use Rattle.sizes.specs.Promise.{Sized}
use Rattle.sizes.specs.Reading.{sizing}
use Rattle.sizes.proofs.Sizing.{sizing-was, sizing-refused, behind-front}

stand-push : (ns : List ℕ) (n : ℕ) (ss : List Section) (fs : List Formula) (s : Section) (f : Formula) → Stand ns n ss fs → Fits ns n s f → Stand ns n (ss ++ (s ∷ [])) (fs ++ (f ∷ []))
stand-push ns n [] [] s f h g = (g, tt)
stand-push ns n [] (e ∷ fs) s f h g = elim h [ ]
stand-push ns n (t ∷ ss) [] s f h g = elim h [ ]
stand-push ns n (t ∷ ss) (e ∷ fs) s f h g = (h.0, stand-push ns n ss fs s f h.1 g)

row-push : (h l : ℕ) (f : Formula) {fs : List Formula} {row : List ℕ} → h * 256 + l ≡ length (written f) → Row fs row → Row (fs ++ (f ∷ [])) (row ++ (h ∷ l ∷ written f))
row-push h l f c none = subst (λ t. Row (f ∷ []) (h ∷ l ∷ t)) (append-nil (written f)) (more h l f [] [] c none)
row-push h l f c (more i j g gs bs d r) =
    subst (λ t. Row (g ∷ (gs ++ (f ∷ []))) (i ∷ j ∷ t)) (sym (append_assoc (written g) bs (h ∷ l ∷ written f))) (more i j g (gs ++ (f ∷ [])) (bs ++ (h ∷ l ∷ written f)) d (row-push h l f c r))

module _ (bs ns : List ℕ) (n : ℕ) where
  step : (done : List Section) (s : Section) (left rest : List ℕ) → Begun bs ns n done left → Was ns n s left rest → Begun bs ns n (done ++ (s ∷ [])) rest
  step done s left rest b w =
      let whole : b.row ++ left ≡ (b.row ++ (w.high ∷ w.low ∷ written w.tree)) ++ rest = ap (λ t. b.row ++ t) w.bytes ∙ sym (append_assoc b.row (w.high ∷ w.low ∷ written w.tree) rest) in
      record {
        few = b.few;
        countable = b.countable;
        clocks = b.clocks;
        trees = b.trees ++ (w.tree ∷ []);
        stand = stand-push ns n done b.trees s w.tree b.stand w.fits;
        row = b.row ++ (w.high ∷ w.low ∷ written w.tree);
        rows = row-push w.high w.low w.tree w.count b.rows;
        bytes = b.bytes ∙ ap (λ t. length ns ∷ (ns ++ (n ∷ t))) whole;
      }

  short : (done : List Section) (left : List ℕ) → Begun bs ns n done left → length left ≤ length bs
  short done left b =
      omega (arith, ap length b.bytes, length-append ns (n ∷ (b.row ++ left)), length-append b.row left)

  -- one formula more, or the rule that is broken
  pub goes : (done : List Section) (s : Section) (left rest : List ℕ) (p : Span) → Begun bs ns n done left → cut ns n (length bs) s left ≡ Ok (p, rest) → Begun bs ns n (done ++ (s ∷ [])) rest
  goes done s left rest p b e = step done s left rest b (cut-was ns n (length bs) s left rest p e)

  pub stops : (done : List Section) (s : Section) (later : List Section) (left : List ℕ) (x : Fault) → Begun bs ns n done left → order n ≡ done ++ (s ∷ later) → cut ns n (length bs) s left ≡ Err x → Broken bs (refusal x)
  stops done s later left x b o e = bad_formula ns n done s later left (refusal x) b o (cut-refused ns n (length bs) s left x (short done left b) e)

  resets-go : (k : ℕ) (done : List Section) (ps qs : List Span) (left rest : List ℕ) → Begun bs ns n done left → resetting ns n (length bs) k ps left ≡ Ok (qs, rest) → Begun bs ns n (done ++ replicate k Clocks) rest
  unfolding resetting
  resets-go ℕ.zero done ps qs left rest b e =
      let pair : ◌≡◌ {A = List Span × List ℕ} (ps, left) (qs, rest) = cc in
      let same : left ≡ rest = ap (λ q. q.1) pair in
      subst (λ t. Begun bs ns n t rest) (sym (append-nil done)) (subst (Begun bs ns n done) same b)
  resets-go (ℕ.suc k) done ps qs left rest b e =
      let x = and_then-ok (cut ns n (length bs) Clocks left) _ (qs, rest) e in
      let c = goes done Clocks left x.0.1 x.0.0 b x.1 in
      subst (λ t. Begun bs ns n t rest) (append_assoc done (Clocks ∷ []) (replicate k Clocks)) (resets-go k (done ++ (Clocks ∷ [])) (ps ++ (x.0.0 ∷ [])) qs x.0.1 rest c x.2)

  resets-stop : (k : ℕ) (done later : List Section) (ps : List Span) (left : List ℕ) (x : Fault) → Begun bs ns n done left → order n ≡ done ++ (replicate k Clocks ++ later) → resetting ns n (length bs) k ps left ≡ Err x → Broken bs (refusal x)
  unfolding resetting
  resets-stop ℕ.zero done later ps left x b o e = never (ps, left) x _ e
  resets-stop (ℕ.suc k) done later ps left x b o e =
      ⊎_elim
      (λ f. stops done Clocks (replicate k Clocks ++ later) left x b o f)
      (λ y. resets-stop k (done ++ (Clocks ∷ [])) later (ps ++ (y.0.0 ∷ [])) y.0.1 x (goes done Clocks left y.0.1 y.0.0 b y.1) (o ∙ sym (append_assoc done (Clocks ∷ []) (replicate k Clocks ++ later))) y.2)
      (and_then-err (cut ns n (length bs) Clocks left) _ x e)

-- formulas of all sections are those of a system
record Split (n : ℕ) (fs : List Formula) : Type 0 where
  pub resets : List Formula
  pub start : Formula
  pub invariant : Formula
  pub transition : Formula
  pub urgent : Formula
  pub number : length resets ≡ n
  pub all : fs ≡ resets ++ (start ∷ invariant ∷ transition ∷ urgent ∷ [])

split : (ns : List ℕ) (m k : ℕ) (fs : List Formula) → Stand ns m (order k) fs → Split k fs
split ns m ℕ.zero [] h = elim h [ ]
split ns m ℕ.zero (a ∷ []) h = elim h.1 [ ]
split ns m ℕ.zero (a ∷ b ∷ []) h = elim h.1.1 [ ]
split ns m ℕ.zero (a ∷ b ∷ c ∷ []) h = elim h.1.1.1 [ ]
split ns m ℕ.zero (a ∷ b ∷ c ∷ d ∷ []) h = record { resets = []; start = a; invariant = b; transition = c; urgent = d; number = refl; all = refl }
split ns m ℕ.zero (a ∷ b ∷ c ∷ d ∷ e ∷ fs) h = elim h.1.1.1.1 [ ]
split ns m (ℕ.suc k) [] h = elim h [ ]
split ns m (ℕ.suc k) (a ∷ fs) h =
    let r = split ns m k fs h.1 in
    record { resets = a ∷ r.resets; start = r.start; invariant = r.invariant; transition = r.transition; urgent = r.urgent; number = ap ℕ.suc r.number; all = ap (λ t. a ∷ t) r.all }

-- a system that is written at the front
pub record Written (bs left : List ℕ) : Type 0 where
  pub system : System
  pub front : List ℕ
  pub sound : Sound system
  pub records : Records system front
  pub bytes : bs ≡ front ++ left

closed : (bs ns : List ℕ) (n : ℕ) (left : List ℕ) → Begun bs ns n (order n) left → Written bs left
closed bs ns n left b =
    let r = split ns n n b.trees b.stand in
    let trees : Stand ns n (order n) (r.resets ++ (r.start ∷ r.invariant ∷ r.transition ∷ r.urgent ∷ [])) = subst (Stand ns n (order n)) r.all b.stand in
    record {
      system = record { counts = ns; resets = r.resets; start = r.start; invariant = r.invariant; transition = r.transition; urgent = r.urgent };
      front = length ns ∷ (ns ++ (n ∷ b.row));
      sound = record { variables = b.few; countable = b.countable; clocks = omega (arith, r.number, b.clocks); stand = subst (λ k. Stand ns k (order k) (r.resets ++ (r.start ∷ r.invariant ∷ r.transition ∷ r.urgent ∷ []))) (sym r.number) trees };
      records = record { row = b.row; rows = subst (λ t. Row t b.row) r.all b.rows; bytes = ap (λ k. length ns ∷ (ns ++ (k ∷ b.row))) (sym r.number) };
      bytes = b.bytes ∙ ap (λ t. length ns ∷ t) (sym (append_assoc ns (n ∷ b.row) left));
    }

-- all sections behind the sizes
module _ (bs ns : List ℕ) (n : ℕ) where
  abbrev first : List Section
  first = replicate n Clocks

  ended : (y z : Layout) (left : List ℕ) → Begun bs ns n (order n) left → finish y (length bs) left ≡ Ok z → (m : System) × Sound m × Records m bs
  ended y z [] b e = let w = closed bs ns n [] b in (w.system, w.sound, subst (Records w.system) (sym (append-nil w.front) ∙ sym w.bytes) w.records)
  ended y z (l ∷ left) b e = never-ok _ z _ e

  trailing : (y : Layout) (left : List ℕ) (x : Fault) → Begun bs ns n (order n) left → finish y (length bs) left ≡ Err x → Broken bs (refusal x)
  trailing y [] x b e = never y x _ e
  trailing y (l ∷ left) x b e =
      let w = closed bs ns n (l ∷ left) b in
      let at : length bs - length (l ∷ left) ≡ length w.front = omega (arith, ap length w.bytes, length-append w.front (l ∷ left)) in
      fault-is (Broken bs) (Trailing (length bs - length (l ∷ left))) x e (subst (λ p. Broken bs (told 13 Urgent p)) (sym at) (more_bytes w.system w.front l left w.sound w.records w.bytes))

  all_done : (((first ++ (Start ∷ [])) ++ (Invariant ∷ [])) ++ (Transition ∷ [])) ++ (Urgent ∷ []) ≡ order n
  all_done = simp append_assoc

  pub sections-was : (left : List ℕ) (z : Layout) → Begun bs ns n [] left → sections ns n (length bs) left ≡ Ok z → (m : System) × Sound m × Records m bs
  sections-was left z b e =
      let r = and_then-ok (resetting ns n (length bs) n [] left) _ z e in
      let b0 = resets-go bs ns n n [] [] r.0.0 left r.0.1 b r.1 in
      let s = and_then-ok (cut ns n (length bs) Start r.0.1) _ z r.2 in
      let b1 = goes bs ns n first Start r.0.1 s.0.1 s.0.0 b0 s.1 in
      let i = and_then-ok (cut ns n (length bs) Invariant s.0.1) _ z s.2 in
      let b2 = goes bs ns n (first ++ (Start ∷ [])) Invariant s.0.1 i.0.1 i.0.0 b1 i.1 in
      let t = and_then-ok (cut ns n (length bs) Transition i.0.1) _ z i.2 in
      let b3 = goes bs ns n ((first ++ (Start ∷ [])) ++ (Invariant ∷ [])) Transition i.0.1 t.0.1 t.0.0 b2 t.1 in
      let u = and_then-ok (cut ns n (length bs) Urgent t.0.1) _ z t.2 in
      let b4 = goes bs ns n (((first ++ (Start ∷ [])) ++ (Invariant ∷ [])) ++ (Transition ∷ [])) Urgent t.0.1 u.0.1 u.0.0 b3 u.1 in
      ended _ z u.0.1 (subst (λ o. Begun bs ns n o u.0.1) all_done b4) u.2

  pub sections-refused : (left : List ℕ) (x : Fault) → Begun bs ns n [] left → sections ns n (length bs) left ≡ Err x → Broken bs (refusal x)
  sections-refused left x b e =
      ⊎_elim
      (λ f. resets-stop bs ns n n [] (Start ∷ Invariant ∷ Transition ∷ Urgent ∷ []) [] left x b refl f)
      (λ r. let b0 = resets-go bs ns n n [] [] r.0.0 left r.0.1 b r.1 in
      ⊎_elim
      (λ f. stops bs ns n first Start (Invariant ∷ Transition ∷ Urgent ∷ []) r.0.1 x b0 refl f)
      (λ s. let b1 = goes bs ns n first Start r.0.1 s.0.1 s.0.0 b0 s.1 in
      ⊎_elim
      (λ f. stops bs ns n (first ++ (Start ∷ [])) Invariant (Transition ∷ Urgent ∷ []) s.0.1 x b1 (simp append_assoc) f)
      (λ i. let b2 = goes bs ns n (first ++ (Start ∷ [])) Invariant s.0.1 i.0.1 i.0.0 b1 i.1 in
      ⊎_elim
      (λ f. stops bs ns n ((first ++ (Start ∷ [])) ++ (Invariant ∷ [])) Transition (Urgent ∷ []) i.0.1 x b2 (simp append_assoc) f)
      (λ t. let b3 = goes bs ns n ((first ++ (Start ∷ [])) ++ (Invariant ∷ [])) Transition i.0.1 t.0.1 t.0.0 b2 t.1 in
      ⊎_elim
      (λ f. stops bs ns n (((first ++ (Start ∷ [])) ++ (Invariant ∷ [])) ++ (Transition ∷ [])) Urgent [] t.0.1 x b3 (simp append_assoc) f)
      (λ u. let b4 = goes bs ns n (((first ++ (Start ∷ [])) ++ (Invariant ∷ [])) ++ (Transition ∷ [])) Urgent t.0.1 u.0.1 u.0.0 b3 u.1 in
      trailing _ u.0.1 x (subst (λ o. Begun bs ns n o u.0.1) all_done b4) u.2)
      (and_then-err (cut ns n (length bs) Urgent t.0.1) _ x t.2))
      (and_then-err (cut ns n (length bs) Transition i.0.1) _ x i.2))
      (and_then-err (cut ns n (length bs) Invariant s.0.1) _ x s.2))
      (and_then-err (cut ns n (length bs) Start r.0.1) _ x r.2))
      (and_then-err (resetting ns n (length bs) n [] left) _ x e)

-- sound sizes are a good beginning
begun : (bs ns : List ℕ) (n : ℕ) → Sized bs ns n → Begun bs ns n [] (drop (2 + length ns) bs)
begun bs ns n z =
    record { few = z.few; countable = z.countable; clocks = z.clocks; trees = []; stand = tt; row = []; rows = none; bytes = z.bytes ∙ ap (λ t. length ns ∷ (ns ++ (n ∷ t))) (sym (ap (drop (2 + length ns)) z.bytes ∙ behind-front ns z.rest n)) }

pub reading-was : (bs : List ℕ) (y : Layout) → reading bs ≡ Ok y → (m : System) × Sound m × Records m bs
reading-was bs y e =
    let z = and_then-ok (sizing bs) _ y e in
    sections-was bs z.0.0 z.0.1 (drop (2 + length z.0.0) bs) y (begun bs z.0.0 z.0.1 (sizing-was bs z.0.0 z.0.1 z.1)) z.2

pub reading-refused : (bs : List ℕ) (x : Fault) → reading bs ≡ Err x → Broken bs (refusal x)
reading-refused bs x e =
    ⊎_elim
    (λ f. bad_sizes (refusal x) (sizing-refused bs x f))
    (λ z. sections-refused bs z.0.0 z.0.1 (drop (2 + length z.0.0) bs) x (begun bs z.0.0 z.0.1 (sizing-was bs z.0.0 z.0.1 z.1)) z.2)
    (and_then-err (sizing bs) _ x e)
