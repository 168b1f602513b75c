-- The commands of a row so far: what the loop of `take_row` keeps.
use mathlib.Core.Bool.{Bool, true, false, not}
use mathlib.Core.List.{List, [], ◌∷◌, ◌++◌, append_assoc, append-nil, flatten}
use mathlib.Core.Logic.{◌⊎◌, inl, inr}
use mathlib.Core.Path.{◌≡◌, refl, sym, ap, ap₂, subst, subst₂, ◌∙◌}
use Prim.Native.Nat.{ℕ, ◌+◌, ◌*◌, ◌-◌, ◌/◌, ◌≤◌, ◌<◌}
use native.Mathlib.Nat.{add-zero, add_assoc}
use native.Mathlib.Omega.{arith}
use borrow.Author.Tests.{lt-ltb}
use lib.ListN.{length, take, drop, length-take, length-drop}
use lib.Seq.{take-add}
use Rattle.lists.proofs.Slices.{same_part}
use Rattle.fields.specs.Word.{bits, is_set}
use Rattle.prediction.specs.Extents.{joined}
use Rattle.prediction.specs.declared.Extent.{Extent}
use Rattle.prediction.proofs.ExtentLaws.{between, join_assoc}
use Rattle.prediction.proofs.LineLaws.{own_along}
use Rattle.prediction.specs.declared.Structure.{Structure}
use Rattle.headers.specs.Headers.{macroblock_header}
use Rattle.headers.specs.Words.{word_at}
use Rattle.answers.specs.Answers.{judged, Accepted}
use Rattle.progress.specs.declared.Progress.{Progress}
use Rattle.placement.specs.Placing.{macroblock_rules}
use Rattle.placement.specs.Progressing.{position_after, stage_after, macroblock_next}
use Rattle.rows.specs.Rows.{Follow, TakenFrom, previous_in, own_in, after_row, AfterRow, OpenRow}
use Rattle.rows.specs.Steps.{place_in, reach_in, Found}
use Rattle.rows.specs.Touching.{command_at, reached, AllFit, across_of, down_of, touched_after, forward_points, backward_points, forward_after, backward_after, Seen}
use Rattle.rows.specs.Words.{due_bits}
use Rattle.progress.specs.declared.Taken.{Taken}
use Rattle.rows.proofs.Keeping.{accepted}
use Rattle.rows.proofs.Taking.{found_comes, next_is}
use Rattle.rows.proofs.TouchedLaws.{after_next, fit_more}
use Rattle.rows.specs.Keeping.{Stands}

-- one more command behind others
more : (p : Progress) (cs : List (List ℕ)) (q : Progress) (c : List ℕ) → Follow p cs q → length c ≡ 9 → word_at c 0 ≡ macroblock_header
    → judged (macroblock_rules q c) ≡ Accepted → Follow p (cs ++ (c ∷ [])) (macroblock_next q c)
more p [] q c f n h a =
    (n, h, subst (λ (x : Progress). judged (macroblock_rules x c) ≡ Accepted) (sym f) a, ap (λ (x : Progress). macroblock_next x c) f)
more p (d ∷ ds) q c f n h a = (f.0, f.1, f.2, more (macroblock_next p d) ds q c f.3 n h a)

flatten_more : (cs : List (List ℕ)) (c : List ℕ) → flatten (cs ++ (c ∷ [])) ≡ flatten cs ++ c
unfolding flatten
flatten_more [] c = append-nil c
flatten_more (d ∷ ds) c = ap (λ (x : List ℕ). d ++ x) (flatten_more ds c) ∙ sym (append_assoc d (flatten ds) c)

-- The progress after k commands from the first column on.
abbrev pub Reached : Progress → List ℕ → ℕ → Progress → Type 0
Reached p ws k q =
    ((k ≡ 0) × (q ≡ p)) ⊎ ((j : ℕ) × (k ≡ j + 1) × (q ≡ after_row p (p.position.column + j) (forward_after p ws k) (backward_after p ws k) (command_at ws j)))

pub record Going (p : Progress) (ws : List ℕ) (column f b at : ℕ) : Type 0 where
  pub k : ℕ
  pub column_is : column ≡ p.position.column + k
  pub at_is : at ≡ 9 * k
  pub q : Progress
  pub cs : List (List ℕ)
  pub words_are : flatten cs ≡ take at ws
  pub follow : Follow p cs q
  pub reached : Reached p ws k q
  pub seen : Seen p ws k f b

-- The bound bits that are due in the next command, and where the last one begins.
abbrev pub Due : Progress → List ℕ → ℕ → ℕ → ℕ → Type 0
Due p ws k due was =
    ((k ≡ 0) × (was ≡ 0) × (due ≡ due_bits (not p.stage.in_slice) p.stage.group_start))
    ⊎ ((j : ℕ) × (k ≡ j + 1) × (was ≡ 9 * j) × (bits (word_at (command_at ws j) 4) 26 26 ≡ 0)
    × (due ≡ due_bits (is_set (bits (word_at (command_at ws j) 4) 31 31)) false))

-- before the first command
unfoldable pub fresh_row : (p : Progress) (ws : List ℕ) → Going p ws p.position.column p.extents.forward.end p.extents.backward.end 0
unfolding flatten
fresh_row p ws =
    record {
      k = 0;
      column_is = sym (add-zero p.position.column);
      at_is = refl;
      q = p;
      cs = [];
      words_are = refl;
      follow = refl;
      reached = inl (refl, refl);
      seen = record { forward_end = refl; backward_end = refl; forward_fit = λ k h. absurd (omega arith); backward_fit = λ k h. absurd (omega arith) };
    }

module _ (p : Progress) (ws : List ℕ) (column due was at f b : ℕ) (row : OpenRow p) (left : column < p.picture.grid.columns) where
  before : List ℕ
  before = take (at - was) (drop was ws)

  abbrev StandsAt : ℕ → Progress → Type 0
  StandsAt k q = Stands p column due (forward_after p ws k) (backward_after p ws k) before q

  stands_first : (q : Progress) (k : ℕ) → k ≡ 0 → column ≡ p.position.column → at ≡ 0 → was ≡ 0
      → due ≡ due_bits (not p.stage.in_slice) p.stage.group_start → q ≡ p → StandsAt k q
  unfolding before
  stands_first q k z ec ea ew ed eq =
      subst (StandsAt k) (sym eq)
      (record {
        open_group = row.open_group;
        due_is = ed;
        same_frame = refl;
        same_picture = refl;
        here = ap (λ (x : ℕ). place_in p x) (sym ec);
        in_columns = left;
        in_rows = row.in_rows;
        previous_is = λ n. absurd (n (length-take (at - was) (drop was ws) ∙ omega arith));
        stage_next = λ fl. refl;
        source_next = ap (joined p.extents.source) own;
        reconstructed_next = ap (joined p.extents.reconstructed) own;
        forward_is = ap (λ (n : ℕ). forward_after p ws n) (sym z);
        backward_is = ap (λ (n : ℕ). backward_after p ws n) (sym z);
      })
    where
      own : reach_in p column 0 ≡ own_in p column
      own = ap (λ (x : ℕ). between (reach_in p x 0).first (reach_in p column 0).end) ec

  stands_later : (q : Progress) (k m i j : ℕ) → m ≡ p.position.column + i → column ≡ m + 1 → at ≡ 9 * (j + 1) → was ≡ 9 * j → bits (word_at (command_at ws j) 4) 26 26 ≡ 0
      → due ≡ due_bits (is_set (bits (word_at (command_at ws j) 4) 31 31)) false → q ≡ after_row p m (forward_after p ws k) (backward_after p ws k) (command_at ws j) → StandsAt k q
  unfolding before after_row stage_after position_after
  stands_later q k m i j em ec ea ew eg ed eq =
      subst (StandsAt k) (sym eq)
      (record {
        open_group = ap (λ (x : ℕ). not (is_set x)) eg;
        due_is = ed ∙ ap (λ (x : Bool). due_bits x false) (sym (twice (is_set (bits (word_at (command_at ws j) 4) 31 31))));
        same_frame = refl;
        same_picture = refl;
        here = place;
        in_columns = left;
        in_rows = row.in_rows;
        previous_is = λ n. let nine : at - was ≡ 9 = omega arith in ap previous_in (same_part ws (sym nine) (sym ew));
        stage_next = λ fl. refl;
        source_next = own p.extents.source;
        reconstructed_next = own p.extents.reconstructed;
        forward_is = refl;
        backward_is = refl;
      })
    where
      twice : (a : Bool) → not (not a) ≡ a
      twice true = refl
      twice false = refl

      place : (after_row p m (forward_after p ws k) (backward_after p ws k) (command_at ws j)).position ≡ place_in p column
      place =
          let next : m + 1 < p.picture.grid.columns = omega arith in
          simp (lt-ltb p.position.row p.picture.grid.rows row.in_rows, lt-ltb (m + 1) p.picture.grid.columns next, ec)

      own : (e : Extent) → joined (joined e (own_in p m)) (reach_in p column 0) ≡ joined e (own_in p column)
      own e =
          join_assoc e (own_in p m) (reach_in p column 0)
          ∙ ap (joined e) (own_along p.frame.surface p.position.column m column p.position.row row.wide (omega arith) (omega arith))

  stands : (g : Going p ws column f b at) → Due p ws g.k due was → StandsAt g.k g.q
  stands g d = by g.reached d
    where
      by : Reached p ws g.k g.q → Due p ws g.k due was → StandsAt g.k g.q
      by (inl (z, eq)) (inl (_, ew, ed)) =
          stands_first g.q g.k z (g.column_is ∙ ap (λ (x : ℕ). p.position.column + x) z ∙ add-zero p.position.column) (g.at_is ∙ ap (λ (x : ℕ). 9 * x) z) ew ed eq
      by (inl (z, _)) (inr (j, e, _, _, _)) = absurd (omega arith)
      by (inr (j, e, _)) (inl (z, _, _)) = absurd (omega arith)
      by (inr (i, ei, eq)) (inr (j, e, ew, eg, ed)) =
          let same : i ≡ j = omega arith in
          stands_later g.q g.k (p.position.column + i) i j refl
          (g.column_is ∙ ap (λ (x : ℕ). p.position.column + x) ei ∙ sym (add_assoc p.position.column i 1))
          (g.at_is ∙ ap (λ (x : ℕ). 9 * x) e) ew eg ed (eq ∙ ap (λ (x : ℕ). after_row p (p.position.column + i) (forward_after p ws g.k) (backward_after p ws g.k) (command_at ws x)) same)

  -- What one more command touches of a reference, by the words of the whole row.
  touched_more : (points : List ℕ → List (Structure × ℕ)) (k : ℕ) (e : Extent) (c : List ℕ) → c ≡ command_at ws k → column ≡ p.position.column + k
      → reached p.frame.surface (place_in p column) (points c) (touched_after points p.frame.surface p.position ws k e)
      ≡ touched_after points p.frame.surface p.position ws (k + 1) e
  touched_more points k e c there ec =
      ap₂ (λ (x : List ℕ) (y : ℕ). reached p.frame.surface (place_in p y) (points x) (touched_after points p.frame.surface p.position ws k e)) there ec
      ∙ sym (after_next points p.frame.surface p.position ws k e)

  -- Behind one more command that is taken.
  pub go_on : (g : Going p ws column f b at) → Due p ws g.k due was → (f' b' : ℕ) → at + 9 ≤ length ws
      → Found p column f b (take (at + 9 - at) (drop at ws)) due (take (at - was) (drop was ws)) f' b' → Going p ws (column + 1) f' b' (at + 9)
  unfolding before
  go_on g d f' b' room found =
      let c = take (at + 9 - at) (drop at ws) in
      let s = stands g d in
      let ends = subst₂ (λ (x y : ℕ). Found p column x y c due before f' b') g.seen.forward_end g.seen.backward_end found in
      let comes = found_comes p g.q column due (forward_after p ws g.k) (backward_after p ws g.k) before c s f' b' ends in
      let nine : at + 9 - at ≡ 9 = omega arith in
      let there : c ≡ command_at ws g.k = same_part ws nine g.at_is in
      let long : length c ≡ 9 = length-take (at + 9 - at) (drop at ws) ∙ omega (arith, length-drop at ws) in
      let forward = touched_more (forward_points p) g.k p.extents.forward c there g.column_is in
      let backward = touched_more (backward_points p) g.k p.extents.backward c there g.column_is in
      record {
        k = g.k + 1;
        column_is = ap (λ (x : ℕ). x + 1) g.column_is ∙ add_assoc p.position.column g.k 1;
        at_is = omega (arith, g.at_is);
        q = macroblock_next g.q c;
        cs = g.cs ++ (c ∷ []);
        words_are =
            flatten_more g.cs c
            ∙ ap (λ (x : List ℕ). x ++ c) g.words_are
            ∙ ap (λ (x : ℕ). take at ws ++ take x (drop at ws)) nine
            ∙ sym (take-add at 9 ws);
        follow = more p g.cs g.q c g.follow long found.header (accepted g.q c comes.joins.keeps);
        reached =
            inr (
              g.k,
              refl,
              next_is p g.q column due (forward_after p ws g.k) (backward_after p ws g.k) before c s _ _ comes.joins
                  ∙ ap₂ (λ (x y : Extent). after_row p column x y c) forward backward
                  ∙ ap₂ (λ (x : ℕ) (y : List ℕ). after_row p x (forward_after p ws (g.k + 1)) (backward_after p ws (g.k + 1)) y) g.column_is there,
            );
        seen =
            record {
              forward_end = comes.forward_end ∙ ap (λ (x : Extent). x.end) forward;
              backward_end = comes.backward_end ∙ ap (λ (x : Extent). x.end) backward;
              forward_fit =
                  fit_more (forward_points p) p.frame.surface p.position ws (across_of p.picture.grid p.picture.forward) (down_of p.picture.grid p.picture.forward) g.k g.seen.forward_fit
                  (subst₂ (λ (x : List ℕ) (y : ℕ). AllFit (across_of p.picture.grid p.picture.forward) (down_of p.picture.grid p.picture.forward) (place_in p y) (forward_points p x)) there g.column_is comes.forward_fits);
              backward_fit =
                  fit_more (backward_points p) p.frame.surface p.position ws (across_of p.picture.grid p.picture.backward) (down_of p.picture.grid p.picture.backward) g.k g.seen.backward_fit
                  (subst₂ (λ (x : List ℕ) (y : ℕ). AllFit (across_of p.picture.grid p.picture.backward) (down_of p.picture.grid p.picture.backward) (place_in p y) (backward_points p x)) there g.column_is comes.backward_fits);
            };
      }

-- The count of commands goes up with each.
pub count_on : (p : Progress) (ws : List ℕ) (column due was at f b : ℕ) (row : OpenRow p) (left : column < p.picture.grid.columns)
    (g : Going p ws column f b at) (d : Due p ws g.k due was) (f' b' : ℕ) (room : at + 9 ≤ length ws)
    (found : Found p column f b (take (at + 9 - at) (drop at ws)) due (take (at - was) (drop was ws)) f' b')
    → (four due' : ℕ) → four ≡ word_at (take (at + 9 - at) (drop at ws)) 4 → bits four 26 26 ≡ 0 → due' ≡ due_bits (is_set (bits four 31 31)) false
    → Due p ws (go_on p ws column due was at f b row left g d f' b' room found).k due' at
unfolding go_on
count_on p ws column due was at f b row left g d f' b' room found four due' ef eg ed =
    let nine : at + 9 - at ≡ 9 = omega arith in
    let same : four ≡ word_at (command_at ws g.k) 4 = ef ∙ ap (λ (c : List ℕ). word_at c 4) (same_part ws nine g.at_is) in
    inr (g.k, refl, g.at_is, ap (λ (x : ℕ). bits x 26 26) (sym same) ∙ eg, ed ∙ ap (λ (x : ℕ). due_bits (is_set (bits x 31 31)) false) same)

-- What is taken in the end.
pub taken_from : (p : Progress) (ws : List ℕ) (column at f b : ℕ) (r : Taken) → at ≤ length ws → Going p ws column f b at → AfterRow p column at ws r → TakenFrom p ws r
taken_from p ws column at f b r room g a =
    record {
      within = omega (arith, a.used_is);
      commands = g.cs;
      taken = g.words_are ∙ ap (λ (x : ℕ). take x ws) (sym a.used_is);
      follow = subst (Follow p g.cs) (ends g.reached) g.follow;
    }
  where
    ends : Reached p ws g.k g.q → g.q ≡ r.progress
    ends (inl (z, e)) = e ∙ sym (a.none (omega (arith, g.at_is)))
    ends (inr (j, e, eq)) =
        let some : 1 ≤ at = omega (arith, g.at_is) in
        let last : column - 1 ≡ p.position.column + j = omega (arith, g.column_is) in
        let nine : at - (at - 9) ≡ 9 = omega (arith, g.at_is) in
        let start : at - 9 ≡ 9 * j = omega (arith, g.at_is) in
        let count : at / 9 ≡ g.k = omega (arith, g.at_is) in
        eq
        ∙ ap (λ (n : ℕ). after_row p (p.position.column + j) (forward_after p ws n) (backward_after p ws n) (command_at ws j)) (sym count)
        ∙ ap₂ (λ (x : ℕ) (y : List ℕ). after_row p x (forward_after p ws (at / 9)) (backward_after p ws (at / 9)) y) (sym last) (sym (same_part ws nine start))
        ∙ sym (a.some some)

-- What the loop keeps, where the words before word `at` are used: the last command begins nine words before.
pub record Row (p : Progress) (ws : List ℕ) (column due f b at : ℕ) : Type 0 where
  pub room : at ≤ length ws
  pub going : Going p ws column f b at
  pub due_next : Due p ws going.k due (at - 9)

-- One more command is taken.
module _ (p : Progress) (ws : List ℕ) {column due f b at : ℕ} (open_row : OpenRow p) (inside : column < p.picture.grid.columns) (row : Row p ws column due f b at)
    (f' b' : ℕ) (room : at + 9 ≤ length ws) (found : Found p column f b (take (at + 9 - at) (drop at ws)) due (take (at - (at - 9)) (drop (at - 9) ws)) f' b') where
  pub row_behind : Going p ws (column + 1) f' b' (at + 9)
  row_behind = go_on p ws column due (at - 9) at f b open_row inside row.going row.due_next f' b' room found

  pub row_on : (four due' : ℕ) → four ≡ word_at (take (at + 9 - at) (drop at ws)) 4 → bits four 26 26 ≡ 0 → due' ≡ due_bits (is_set (bits four 31 31)) false
      → Row p ws (column + 1) due' f' b' (at + 9)
  unfolding row_behind
  row_on four due' ef eg ed =
      let last : at ≡ at + 9 - 9 = omega arith in
      record {
        room = room;
        going = row_behind;
        due_next = subst (λ (was : ℕ). Due p ws row_behind.k due' was) last (count_on p ws column due (at - 9) at f b open_row inside row.going row.due_next f' b' room found four due' ef eg ed);
      }

pub nothing : (p : Progress) (ws : List ℕ) → TakenFrom p ws (record { progress = p; used = 0 })
unfolding flatten
nothing p ws = record { within = omega arith; commands = []; taken = refl; follow = refl }
