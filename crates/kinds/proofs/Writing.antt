-- What is written of a text that comes in parts.
use Rattle.std.proofs.Common.{◌≡◌, ℕ, ◌+◌, ◌<◌, List, [], ◌∷◌, ◌++◌, length, take, Option, Some, None, Ok, refl, sym, ap, ◌∙◌, append_assoc, append-nil}
use Rattle.std.proofs.Output.{has_written_append, has_written_of_eq, writes_in_calls_nil}
use Rattle.std.proofs.lemmas.List.{take_more}
use Rattle.std.specs.Prelude.{IfSome, slice_index_or}
use Rattle.std.specs.Fmt.{◌++?◌, DisplaysOnOk, HasWritten, IsPlainFormatter}
use Rattle.std.specs.declared.fmt.Formatter.{Formatter}
use Rattle.kinds.specs.Texts.{each_after}

-- texts that may be missing, one behind the other
regrouped : (o p q : Option (List ℕ)) → (o ++? p) ++? q ≡ o ++? (p ++? q)
regrouped None p q = refl
regrouped (Some a) None q = refl
regrouped (Some a) (Some b) None = refl
regrouped (Some a) (Some b) (Some c) = ap (λ x. Some x) (append_assoc a b c)

alone : (o : Option (List ℕ)) → o ++? Some [] ≡ o
alone None = refl
alone (Some a) = ap (λ x. Some x) (append-nil a)

before : (o : Option (List ℕ)) → Some [] ++? o ≡ o
before None = refl
before (Some a) = refl

-- one more item
each_push : {A : Type 0} (gap : List ℕ) (text : A → Option (List ℕ)) (xs : List A) (x : A)
    → each_after gap text (xs ++ (x ∷ [])) ≡ each_after gap text xs ++? (Some gap ++? text x)
unfolding each_after
each_push gap text [] x = ap (λ o. Some gap ++? o) (alone (text x)) ∙ sym (before (Some gap ++? text x))
each_push gap text (y ∷ ys) x =
    ap (λ o. Some gap ++? (text y ++? o)) (each_push gap text ys x)
    ∙ ap (λ o. Some gap ++? o) (sym (regrouped (text y) (each_after gap text ys) (Some gap ++? text x)))
    ∙ sym (regrouped (Some gap) (text y ++? each_after gap text ys) (Some gap ++? text x))

-- the same, where the items up to an index are taken
pub each_more : {A : Type 0} (gap : List ℕ) (text : A → Option (List ℕ)) (xs : List A) (i : ℕ) (x : A) → i < length xs → x ≡ slice_index_or xs i x
    → each_after gap text (take (i + 1) xs) ≡ each_after gap text (take i xs) ++? (Some gap ++? text x)
each_more gap text xs i x within is =
    ap (each_after gap text) (take_more xs i x within ∙ ap (λ y. take i xs ++ (y ∷ [])) (sym is)) ∙ each_push gap text (take i xs) x

module _ {W : Type 0} (took : W → List ℕ → W → Type 0) where
  -- what is written of a text, where there is one
  abbrev pub Wrote : Formatter W → Option (List ℕ) → Formatter W → Type 0
  Wrote f o g = IfSome o (λ bs. HasWritten took f bs g)

  -- before the first item
  pub nothing : {A : Type 0} (gap : List ℕ) (text : A → Option (List ℕ)) (f : Formatter W) → IsPlainFormatter f → Wrote f (each_after gap text []) f
  unfolding each_after
  nothing gap text f plain = record { wrote = writes_in_calls_nil took f.writer; plain = plain }

  -- one text, and then another
  pub both : (f g h : Formatter W) (o p : Option (List ℕ)) → Wrote f o g → (IsPlainFormatter g → Wrote g p h) → Wrote f (o ++? p) h
  both f g h None p x y = tt
  both f g h (Some a) None x y = tt
  both f g h (Some a) (Some b) x y = has_written_append took f a g b h x (y x.plain)

  -- a call that did not fail
  pub wrote : (f g : Formatter W) (o : Option (List ℕ)) → DisplaysOnOk took f (Ok tt) o g → IsPlainFormatter f → Wrote f o g
  wrote f g None x plain = tt
  wrote f g (Some a) x plain = x plain refl

  -- two texts in one call, and then a third
  pub displays : (f g h : Formatter W) (a b : List ℕ) (o : Option (List ℕ)) → (IsPlainFormatter f → HasWritten took f (a ++ b) g)
      → (IsPlainFormatter g → Wrote g o h) → DisplaysOnOk took f (Ok tt) (Some a ++? Some b ++? o) h
  displays f g h a b None x y = tt
  displays f g h a b (Some c) x y = λ plain ok.
      has_written_of_eq took _ _ _ _ (append_assoc a b c) (has_written_append took f (a ++ b) g c h (x plain) (y (x plain).plain))
