-- A row's text grows number by number, and what is written one after the other stands together.
use Rattle.std.proofs.Common.{◌≡◌, ℕ, ◌+◌, ◌<◌, ◌≤◌, List, [], ◌∷◌, ◌++◌, length, take, take_all, slice_index_or, Option, Some, None, Ok, refl, sym, ap, subst, ◌∙◌, append_assoc, append-nil}
use Rattle.std.proofs.lemmas.List.{take_more}
use Rattle.std.proofs.Output.{has_written_append}
use Rattle.std.specs.Option.{IfSome}
use Rattle.std.specs.Fmt.{HasWritten, IsPlainFormatter, WritesOnOk, DisplaysOnOk, ◌++?◌}
use Rattle.std.specs.declared.fmt.Formatter.{Formatter}
use Rattle.runlist.specs.Row.{each_after_space, row_text}

-- Texts that stand together group either way.
pub text_assoc : (o p q : Option (List ℕ)) → (o ++? p) ++? q ≡ o ++? (p ++? q)
text_assoc None p q = refl
text_assoc (Some a) None q = refl
text_assoc (Some a) (Some b) None = refl
text_assoc (Some a) (Some b) (Some c) = ap (λ (l : List ℕ). Some l) (append_assoc a b c)

text_before_nothing : (o : Option (List ℕ)) → o ++? Some [] ≡ o
text_before_nothing None = refl
text_before_nothing (Some a) = ap (λ (l : List ℕ). Some l) (append-nil a)

text_after_nothing : (o : Option (List ℕ)) → Some [] ++? o ≡ o
text_after_nothing None = refl
text_after_nothing (Some a) = refl

module _ {T : Type 0} (shown : T → Option (List ℕ)) where
  after_space_append : (xs ys : List T) → each_after_space shown (xs ++ ys) ≡ each_after_space shown xs ++? each_after_space shown ys
  after_space_append [] ys = sym (text_after_nothing (each_after_space shown ys))
  after_space_append (x ∷ xs) ys =
      let one = Some (32 ∷ []) ++? shown x in
      ap (λ o. one ++? o) (after_space_append xs ys) ∙ sym (text_assoc one (each_after_space shown xs) (each_after_space shown ys))

  after_one_more : (xs : List T) (n : ℕ) (x : T) → n < length xs → x ≡ slice_index_or xs n x
      → each_after_space shown (take n xs) ++? (Some (32 ∷ []) ++? shown x) ≡ each_after_space shown (take (n + 1) xs)
  after_one_more xs n x below at =
      let one = Some (32 ∷ []) ++? shown x in
      let more : take (n + 1) xs ≡ take n xs ++ (x ∷ []) = take_more xs n x below ∙ ap (λ y. take n xs ++ (y ∷ [])) (sym at) in
      ap (λ o. each_after_space shown (take n xs) ++? o) (sym (text_before_nothing one)) ∙ sym (after_space_append (take n xs) (x ∷ [])) ∙ ap (each_after_space shown) (sym more)

module _ {W : Type 0} (took : W → List ℕ → W → Type 0) where
  -- A write behind a text.
  written_behind : (f g h : Formatter W) (o p : Option (List ℕ)) → IfSome o (λ bs. HasWritten took f bs g) → DisplaysOnOk took g (Ok tt) p h → IfSome (o ++? p) (λ bs. HasWritten took f bs h)
  written_behind f g h None p before write = tt
  written_behind f g h (Some a) None before write = tt
  written_behind f g h (Some a) (Some b) before write = has_written_append took f a g b h before (write before.plain refl)

  -- A write, and then the rest of the text.
  written_first : (f g h : Formatter W) (o p : Option (List ℕ)) → DisplaysOnOk took f (Ok tt) o g → (IsPlainFormatter g → IfSome p (λ bs. HasWritten took g bs h)) → DisplaysOnOk took f (Ok tt) (o ++? p) h
  written_first f g h None p write rest = tt
  written_first f g h (Some a) None write rest = tt
  written_first f g h (Some a) (Some b) write rest = λ plain _. let first = write plain refl in has_written_append took f a g b h first (rest first.plain)

  -- A space, and then a text.
  after_a_space : (g s h : Formatter W) (p : Option (List ℕ)) → WritesOnOk took g (Ok tt) (32 ∷ []) s → DisplaysOnOk took s (Ok tt) p h → DisplaysOnOk took g (Ok tt) (Some (32 ∷ []) ++? p) h
  after_a_space g s h None space write = tt
  after_a_space g s h (Some a) space write = written_first g s h (Some (32 ∷ [])) (Some a) space (λ plain. write plain refl)

  module _ {T : Type 0} (shown : T → Option (List ℕ)) (f g h : Formatter W) where
    -- Where one number more was written after a space, that many were.
    pub one_more_written : (xs : List T) (n : ℕ) (x : T) (s : Formatter W) → n < length xs → x ≡ slice_index_or xs n x
        → IfSome (each_after_space shown (take n xs)) (λ bs. HasWritten took f bs g) → WritesOnOk took g (Ok tt) (32 ∷ []) s → DisplaysOnOk took s (Ok tt) (shown x) h
        → IfSome (each_after_space shown (take (n + 1) xs)) (λ bs. HasWritten took f bs h)
    one_more_written xs n x s below at before space write =
        let one = after_a_space g s h (shown x) space write in
        subst (λ o. IfSome o (λ bs. HasWritten took f bs h)) (after_one_more shown xs n x below at) (written_behind f g h _ _ before one)

    -- Where the first was written and then each other one after a space, the row was.
    pub row_written : (row rest : List T) (x : T) (n : ℕ) → row ≡ x ∷ rest → length rest ≤ n → DisplaysOnOk took f (Ok tt) (shown x) g
        → (IsPlainFormatter g → IfSome (each_after_space shown (take n rest)) (λ bs. HasWritten took g bs h)) → DisplaysOnOk took f (Ok tt) (row_text shown row) h
    row_written row rest x n is all write others =
        let behind = λ (plain : IsPlainFormatter g). subst (λ l. IfSome (each_after_space shown l) (λ bs. HasWritten took g bs h)) (take_all n rest all) (others plain) in
        subst (λ l. DisplaysOnOk took f (Ok tt) (row_text shown l) h) (sym is) (written_first f g h (shown x) (each_after_space shown rest) write behind)
