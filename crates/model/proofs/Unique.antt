-- The bytes of a record are those of one system only.
use Rattle.std.proofs.Common.{◌≡◌, ℕ, List, [], ◌∷◌, ◌++◌, length, take, drop, sym, refl, ap, ◌∙◌}
use Rattle.std.proofs.lemmas.List.{take_at, drop_at}
use Rattle.instruction.specs.declared.sections.Section.{Section}
use Rattle.formula.specs.Formulas.{Formula, written, Writes}
use Rattle.formula.proofs.Unique as formula
use Rattle.model.specs.Systems.{System, Sound, Stand, Fits, Row, none, more, Records, formulas, order}

parted : {A : Type 0} (xs ys us vs : List A) → xs ++ ys ≡ us ++ vs → length xs ≡ length us → (xs ≡ us) × (ys ≡ vs)
parted xs ys us vs e n = (
  sym (take_at xs ys (length us) n) ∙ ap (take (length us)) e ∙ take_at us vs (length us) refl,
  sym (drop_at xs ys (length us) n) ∙ ap (drop (length us)) e ∙ drop_at us vs (length us) refl,
)

module _ (ns : List ℕ) (n : ℕ) where
  writes : (s : Section) (bs : List ℕ) (f : Formula) → Fits ns n s f → bs ≡ written f → Writes ns n s bs f
  writes s bs f p e = record { bytes = e; allowed = p.allowed; shallow = p.shallow }

  rows-unique : (ss : List Section) {fs gs : List Formula} {xs ys : List ℕ} → Row fs xs → Row gs ys → Stand ns n ss fs → Stand ns n ss gs → xs ≡ ys → fs ≡ gs
  rows-unique [] none none p q e = refl
  rows-unique [] none (more h l g gs ys d r) p q e = absurd q
  rows-unique [] (more h l f fs xs c r) none p q e = absurd p
  rows-unique [] (more h l f fs xs c r) (more i k g gs ys d t) p q e = absurd p
  rows-unique (s ∷ ss) none none p q e = refl
  rows-unique (s ∷ ss) none (more h l g gs ys d r) p q e = absurd p
  rows-unique (s ∷ ss) (more h l f fs xs c r) none p q e = absurd q
  rows-unique (s ∷ ss) (more h l f fs xs c r) (more i k g gs ys d t) p q e =
      let behind : written f ++ xs ≡ written g ++ ys = cc in
      let long : length (written f) ≡ length (written g) = cc in
      let both = parted (written f) xs (written g) ys behind long in
      let front : f ≡ g = formula.unique ns n s (written f) f g (writes s (written f) f p.0 refl) (writes s (written f) g q.0 both.0) in
      let back : fs ≡ gs = rows-unique ss r t p.1 q.1 both.1 in
      cc

of_parts : List ℕ → List Formula → Formula → Formula → Formula → Formula → System
of_parts ns fs a b c d = record { counts = ns; resets = fs; start = a; invariant = b; transition = c; urgent = d }

parts-of : (m : System) → m ≡ of_parts m.counts m.resets m.start m.invariant m.transition m.urgent
unfolding of_parts
parts-of m = refl

pub unique : (bs : List ℕ) (m k : System) → Sound m → Sound k → Records m bs → Records k bs → m ≡ k
unique bs m k p q r t =
    let whole = sym r.bytes ∙ t.bytes in
    let long : length m.counts ≡ length k.counts = cc in
    let behind : m.counts ++ (length m.resets ∷ r.row) ≡ k.counts ++ (length k.resets ∷ t.row) = cc in
    let first = parted m.counts _ k.counts _ behind long in
    let counts : m.counts ≡ k.counts = first.0 in
    let clocks : length m.resets ≡ length k.resets = cc first.1 in
    let row : r.row ≡ t.row = cc first.1 in
    let stand : Stand m.counts (length m.resets) (order (length m.resets)) (formulas k) = rw (counts, clocks) q.stand in
    let all : formulas m ≡ formulas k = rows-unique m.counts (length m.resets) (order (length m.resets)) r.rows t.rows p.stand stand row in
    let both = parted m.resets _ k.resets _ all clocks in
    let resets : m.resets ≡ k.resets = both.0 in
    cc (both.1, parts-of m, parts-of k)
