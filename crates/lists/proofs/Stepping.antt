-- What is promised along a list of calls.
use mathlib.Core.List.{List, [], ◌∷◌, ◌++◌, flatten, foldl, foldl-append}
use mathlib.Core.Path.{◌≡◌, refl, ◌∙◌, sym, ap, subst}
use Rattle.lists.specs.Calls.{Along}

-- What holds of no call, and of one call before others of which it holds, holds of every list of calls.
pub along : {S C : Type 0} (Step : S → C → S → Type 0) (Told : S → List C → S → Type 0) → ((s : S) → Told s [] s)
    → ((s : S) (c : C) (t : S) (cs : List C) (r : S) → Step s c t → Told t cs r → Told s (c ∷ cs) r)
    → (s : S) (cs : List C) (r : S) → Along Step s cs r → Told s cs r
along Step Told none more s [] r e = subst (λ x. Told s [] x) e (none s)
along Step Told none more s (c ∷ cs) r h = more s c h.0 cs r h.1 (along Step Told none more h.0 cs r h.2)

-- Calls that hand over lists, by steps of which two in a row are one with both lists: the list of calls is one step with all of them.
pub along_whole : {S A : Type 0} (Step : S → List A → S → Type 0) → ((s : S) → Step s [] s)
    → ((s : S) (xs : List A) (t : S) (ys : List A) (r : S) → Step s xs t → Step t ys r → Step s (xs ++ ys) r)
    → (s : S) (parts : List (List A)) (r : S) → Along Step s parts r → Step s (flatten parts) r
unfolding flatten
along_whole Step none both = along Step (λ s parts r. Step s (flatten parts) r) none (λ s c t cs r one others. both s c t (flatten cs) r one others)

-- Calls on something that stands for a state are calls on the states that it stands for.
pub along_view : {M S C : Type 0} (view : M → S) (Call : M → C → M → Type 0) (Step : S → C → S → Type 0)
    → ((a : M) (c : C) (b : M) → Call a c b → Step (view a) c (view b))
    → (m : M) (cs : List C) (r : M) → Along Call m cs r → Along Step (view m) cs (view r)
along_view view Call Step seen =
    along Call (λ m cs r. Along Step (view m) cs (view r)) (λ m. refl) (λ m c n cs r one others. (view n, seen m c n one, others))

-- A state stands for a value (`view`) that each element changes by one step: two lists in a row are one list of both.
pub folds_both : {S B A : Type 0} (view : S → B) (step : B → A → B) (s : S) (xs : List A) (t : S) (ys : List A) (r : S)
    → view t ≡ foldl step (view s) xs → view r ≡ foldl step (view t) ys → view r ≡ foldl step (view s) (xs ++ ys)
folds_both view step s xs t ys r h k = k ∙ ap (λ v. foldl step v ys) h ∙ sym (foldl-append step (view s) xs ys)
