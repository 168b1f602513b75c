-- What the fold over a batch's words does: with the words of one command, at the limit, and where it goes on.
use mathlib.Core.Bool.{Bool, true, false, cond}
use mathlib.Core.List.{List, [], ◌∷◌, ◌++◌, foldl, foldl-append}
use mathlib.Core.Logic.{◌⊎◌, inl, inr}
use mathlib.Core.Path.{◌≡◌, refl, sym, ◌∙◌, ap, subst}
use Prim.Native.Nat.{ℕ, suc, ◌+◌, ◌≤◌, ◌<◌}
use native.Mathlib.Nat.{add-zero, not-suc-le-zero}
use native.Mathlib.Omega.{arith}
use borrow.Author.Tests.{lt-ltb, le-ltb, lt-leb, le-leb, ne_eqb, ltb-true, leb-false}
use lib.Dec.{eqb, leb, ltb}
use lib.ListN.{length, take, drop, length-append, length-drop}
use Rattle.headers.specs.Headers.{header_of, words_in}
use Rattle.headers.specs.Words.{word_at}
use Rattle.headers.specs.declared.Header.{Header}
use Rattle.headers.proofs.HeaderLaws.{words_few}
use Rattle.progress.specs.declared.Progress.{Progress}
use Rattle.sequence.specs.Judging.{judge}
use Rattle.std.specs.Prelude.{Ok, Err}
use Rattle.progress.specs.Progress.{Verdict}
use Rattle.commands.specs.Commands.{next_in, by_next}
use Rattle.commands.proofs.Gathering.{gathered, first_whole, by_next_lem}
use Rattle.batch.specs.Walk.{Walk, going, stopped, limit, after, step, walk_of}

-- After a refusal nothing changes.
pub stays : (n place : ℕ) (ws : List ℕ) → foldl step (stopped n place) ws ≡ stopped n place
unfolding step
stays n place [] = refl
stays n place (w ∷ ws) = stays n place ws

-- A walk, with the words that are judged, of a batch whose END has not come.
module _ (at : ℕ) (p : Progress) (e : p.stage.ended ≡ false) where
  abbrev read : List ℕ → List ℕ → Walk
  read g ws = foldl step (going at p g) ws

  abbrev done : Header → ℕ → List ℕ → List ℕ → Walk
  done h n g ws = foldl step (after at (at + n) (judge h p g)) ws

  -- a word that names no command
  unknown : (w : ℕ) (ws : List ℕ) → at < limit → words_in (header_of w) ≡ 0 → read [] (w ∷ ws) ≡ stopped 2 at
  unfolding step
  unknown w ws l h = simp (add-zero, lt-leb limit at l, e, h) (stays 2 at ws)

  -- one word, with which the command is not whole
  more : (g : List ℕ) (w : ℕ) (ws : List ℕ) → at + length g < limit → length (g ++ (w ∷ [])) < words_in (header_of (word_at (g ++ (w ∷ [])) 0))
      → read g (w ∷ ws) ≡ read (g ++ (w ∷ [])) ws
  unfolding step
  more g w ws l h =
      let n = words_in (header_of (word_at (g ++ (w ∷ [])) 0)) in
      simp (lt-leb limit (at + length g) l, e, ne_eqb n 0 (λ z. omega arith), lt-ltb (length (g ++ (w ∷ []))) n h)

  -- the last word of a command
  last : (g : List ℕ) (w : ℕ) (ws : List ℕ) (h : Header) (n : ℕ) → at + length g < limit → header_of (word_at (g ++ (w ∷ [])) 0) ≡ h
      → n ≡ words_in h → length (g ++ (w ∷ [])) ≡ n → read g (w ∷ ws) ≡ done h n (g ++ (w ∷ [])) ws
  unfolding step
  last g w ws h n l s c m =
      let len : length (g ++ (w ∷ [])) ≡ length g + 1 = length-append g (w ∷ []) in
      simp (lt-leb limit (at + length g) l, e, s, ← c, m, ne_eqb n 0 (λ z. omega arith), le-ltb n n (omega arith))

  -- The words of a command that is not whole are gathered.
  pub gather : (g ws : List ℕ) → at + length g + length ws ≤ limit → length g + length ws < words_in (header_of (word_at (g ++ ws) 0))
      → foldl step (going at p g) ws ≡ going at p (g ++ ws)
  gather = gathered read (stopped 2 at) done at limit unknown more last

  -- The fold over words of which the first n are a whole command: that command judged, and the fold over the others.
  pub command : (n : ℕ) (ws : List ℕ) (h : Header) → at + n ≤ limit → 1 ≤ n → n ≤ length ws → header_of (word_at ws 0) ≡ h → n ≡ words_in h
      → foldl step (going at p []) ws ≡ foldl step (after at (at + n) (judge h p (take n ws))) (drop n ws)
  command = first_whole read (stopped 2 at) done at limit unknown more last

  -- The fold over words, by what they begin with: refused by 2, gathered, or that command judged and the fold over the others.
  pub walk_next : (ws : List ℕ) → at + length ws ≤ limit
      → foldl step (going at p []) ws
      ≡ by_next (stopped 2 at) (going at p ws) (λ h n. foldl step (after at (at + n) (judge h p (take n ws))) (drop n ws)) (next_in ws)
  walk_next = by_next_lem read (stopped 2 at) done at limit unknown more last

-- A walk at the limit is stopped by one more word.
pub full : (at : ℕ) (p : Progress) (g ws : List ℕ) → 1 ≤ length ws → limit ≤ at + length g → foldl step (going at p g) ws ≡ stopped 27 limit
unfolding step
full at p g [] l e = absurd (not-suc-le-zero l)
full at p g (w ∷ ws) l e = simp (le-leb limit (at + length g) e) (stays 27 limit ws)

-- what holds of each outcome holds by a test, and after a verdict
by_test : (P : Walk → Type 0) (t : Bool) (a b : Walk) → (t ≡ true → P a) → (t ≡ false → P b) → P (cond t a b)
by_test P true a b x y = x refl
by_test P false a b x y = y refl

by_verdict : (P : Walk → Type 0) (at next : ℕ) (v : Verdict) → ((n place : ℕ) → P (stopped n place)) → ((q : Progress) → P (going next q []))
    → P (after at next v)
unfolding after
by_verdict P at next (Ok q) x y = y q
by_verdict P at next (Err f) x y = x f.number (at + f.place)

-- One more word refuses, ends a command or is gathered.
pub one_word : (P : Walk → Type 0) (at : ℕ) (p : Progress) (g : List ℕ) (w : ℕ)
    → ((n place : ℕ) → P (stopped n place))
    → (at + length g < limit → (q : Progress) → P (going (at + length g + 1) q []))
    → (at + length g < limit → p.stage.ended ≡ false → length (g ++ (w ∷ [])) < words_in (header_of (word_at (g ++ (w ∷ [])) 0))
    → P (going at p (g ++ (w ∷ []))))
    → P (step (going at p g) w)
unfolding step
one_word P at p g w refuses ends gathers =
    let len : length (g ++ (w ∷ [])) ≡ length g + 1 = length-append g (w ∷ []) in
    let next : at + length g + 1 ≡ at + length (g ++ (w ∷ [])) = omega arith in
    let c = header_of (word_at (g ++ (w ∷ [])) 0) in
    by_test P (leb limit (at + length g)) _ _ (λ _. refuses 27 limit)
    (λ b. let below = leb-false limit (at + length g) b in
    by_test P p.stage.ended _ _
    (λ _. by_test P (eqb w 0) _ _ (λ _. ends below p) (λ _. refuses 12 (at + length g)))
    (λ e. by_test P (eqb (words_in c) 0) _ _ (λ _. refuses 2 at)
    (λ _. by_test P (ltb (length (g ++ (w ∷ []))) (words_in c)) _ _
    (λ l. gathers below e (ltb-true (length (g ++ (w ∷ []))) (words_in c) l))
    (λ _. by_verdict P at (at + length (g ++ (w ∷ []))) (judge c p (g ++ (w ∷ []))) refuses
    (λ q. subst (λ (k : ℕ). P (going k q [])) next (ends below q))))))

-- A walk that goes on has come to word n.
abbrev pub Counted : ℕ → Walk → Type 0
Counted n (going at p g) = at + length g ≡ n
Counted n (stopped k place) = Unit

pub counted_step : (n : ℕ) (s : Walk) (w : ℕ) → Counted n s → Counted (n + 1) (step s w)
counted_step n (stopped k place) w h = unfold step in tt
counted_step n (going at p g) w h =
    let len : length (g ++ (w ∷ [])) ≡ length g + 1 = length-append g (w ∷ []) in
    one_word (Counted (n + 1)) at p g w (λ _ _. tt) (λ _ _. omega arith) (λ _ _ _. omega arith)

pub counted_fold : (n : ℕ) (s : Walk) (ws : List ℕ) → Counted n s → Counted (n + length ws) (foldl step s ws)
counted_fold n s [] h = rw add-zero h
counted_fold n s (w ∷ ws) h =
    let e : n + suc (length ws) ≡ n + 1 + length ws = omega arith in
    rw e (counted_fold (n + 1) (step s w) ws (counted_step n s w h))

-- A walk that goes on has counted every word.
pub counted : (at : ℕ) (p : Progress) (g ws : List ℕ) (at' : ℕ) (p' : Progress) (g' : List ℕ)
    → foldl step (going at p g) ws ≡ going at' p' g' → at' + length g' ≡ at + length g + length ws
counted at p g ws at' p' g' e = subst (Counted (at + length g + length ws)) e (counted_fold (at + length g) (going at p g) ws refl)

-- a walk that goes on has come to a word within the limit
abbrev Within : Walk → Type 0
Within (going at p g) = at + length g ≤ limit
Within (stopped n place) = Unit

within_step : (s : Walk) (w : ℕ) → Within (step s w)
within_step (stopped n place) w = unfold step in tt
within_step (going at p g) w =
    let len : length (g ++ (w ∷ [])) ≡ length g + 1 = length-append g (w ∷ []) in
    one_word Within at p g w (λ _ _. tt) (λ b _. omega arith) (λ b _ _. omega arith)

within_fold : (s : Walk) (ws : List ℕ) → Within s → Within (foldl step s ws)
within_fold s [] h = h
within_fold s (w ∷ ws) h = within_fold (step s w) ws (within_step s w)

-- A walk that goes on stays within the words that are judged.
pub within_limit : (at : ℕ) (p : Progress) (g ws : List ℕ) (at' : ℕ) (p' : Progress) (g' : List ℕ) → at + length g ≤ limit
    → foldl step (going at p g) ws ≡ going at' p' g' → at' + length g' ≤ limit
within_limit at p g ws at' p' g' h e = subst Within e (within_fold (going at p g) ws h)

-- Whole commands take no more words than there are.
pub used_within : (base : ℕ) (p : Progress) (ws : List ℕ) (p' : Progress) (used : ℕ)
    → walk_of base ws (Ok (record { progress = p'; used = used })) ≡ foldl step (going base p []) ws → used ≤ length ws
used_within base p ws p' used e =
    let all = counted base p [] ws (base + used) p' (drop used ws) (sym e) in
    let rest = length-drop used ws in
    omega arith

-- Words that a walk may have gathered: none, or fewer than the command that they begin has.
abbrev pub Short : Progress → List ℕ → Type 0
Short p g = (g ≡ []) ⊎ ((p.stage.ended ≡ false) × (length g < words_in (header_of (word_at g 0))))

-- a walk that goes on has gathered such words
abbrev Left : Walk → Type 0
Left (going at p g) = Short p g
Left (stopped n place) = Unit

left_step : (s : Walk) (w : ℕ) → Left (step s w)
left_step (stopped n place) w = unfold step in tt
left_step (going at p g) w = one_word Left at p g w (λ _ _. tt) (λ _ _. inl refl) (λ _ e l. inr (e, l))

left_fold : (s : Walk) (ws : List ℕ) → Left s → Left (foldl step s ws)
left_fold s [] h = h
left_fold s (w ∷ ws) h = left_fold (step s w) ws (left_step s w)

-- A walk that goes on leaves such words, whatever such words it began with.
pub still_short : (at : ℕ) (p : Progress) (g ws : List ℕ) (at' : ℕ) (p' : Progress) (g' : List ℕ) → Short p g
    → foldl step (going at p g) ws ≡ going at' p' g' → Short p' g'
still_short at p g ws at' p' g' h e = subst Left e (left_fold (going at p g) ws h)

-- A walk that goes on from no gathered words leaves none, or the beginning of a command that is not whole.
pub left_short : (at : ℕ) (p : Progress) (ws : List ℕ) (at' : ℕ) (p' : Progress) (g' : List ℕ)
    → foldl step (going at p []) ws ≡ going at' p' g' → Short p' g'
left_short at p ws at' p' g' = still_short at p [] ws at' p' g' (inl refl)

-- Such words are at most 60.
pub short_few : (p : Progress) (g : List ℕ) → Short p g → length g ≤ 60
short_few p g (inl e) = let z : length g ≡ 0 = ap length e in omega arith
short_few p g (inr h) =
    let some = h.1 in
    let few = words_few (word_at g 0) in
    omega arith

-- A walk with such words gathered is the walk from the beginning of their command.
pub resumed : (at : ℕ) (p : Progress) (g ws : List ℕ) → Short p g → at + length g ≤ limit
    → foldl step (going at p g) ws ≡ foldl step (going at p []) (g ++ ws)
resumed at p g ws (inl e) l =
    ap (λ (x : List ℕ). foldl step (going at p x) ws) e ∙ ap (λ (x : List ℕ). foldl step (going at p []) (x ++ ws)) (sym e)
resumed at p g ws (inr h) l =
    let short = h.1 in
    sym (foldl-append step (going at p []) g ws ∙ ap (λ (s : Walk). foldl step s ws) (gather at p h.0 [] g (omega arith) (omega arith)))
