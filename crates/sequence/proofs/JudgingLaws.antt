-- What holds of a command that was judged.
use mathlib.Core.Bool.{Bool, true, false, ◌||◌}
use mathlib.Core.List.{List, [], ◌∷◌}
use mathlib.Core.Path.{◌≡◌, refl, sym}
use Prim.Native.Nat.{ℕ, ◌≤◌, ◌<◌}
use native.Mathlib.Nat.{le_trans}
use native.Mathlib.Omega.{arith}
use lib.Dec.{T, eqb, leb, ltb, leb→le, ltb→lt}
use Rattle.lists.proofs.Booleans.{no}
use Rattle.answers.specs.Answers.{rule, judged, Accepted, fault_at, Answer}
use Rattle.std.specs.Prelude.{Ok, Err}
use Rattle.answers.proofs.Judging.{within_both, judged_within}
use Rattle.headers.specs.Headers.{table, header_of, words_in}
use Rattle.headers.proofs.HeaderLaws.{every_header}
use Rattle.headers.specs.declared.Header.{Header}
use Rattle.headers.specs.declared.Header.TheVariants.{Known, Carried, Unknown}
use Rattle.headers.specs.declared.Opcode.TheVariants.{Noop, End, Surface, Picture, SliceGroup, Macroblock}
use Rattle.picture.specs.Surfaces.{surface_rules}
use Rattle.picture.specs.Pictures.{picture_rules}
use Rattle.picture.proofs.PictureLaws.{surface_within, picture_within}
use Rattle.progress.specs.Progress.{verdict_answer, concluded}
use Rattle.progress.specs.declared.Progress.{Progress}
use Rattle.placement.specs.Placing.{macroblock_rules}
use Rattle.placement.proofs.MacroblockLaws.{macroblock_within}
use Rattle.sequence.specs.Sequence.{surface_permitted, picture_permitted}
use Rattle.sequence.specs.Judging.{rules_of, next_of, judge}
use Rattle.answers.specs.Tables.{within}

-- the last word at which a command can be refused
abbrev last_word : Header → ℕ
last_word (Known Noop n) = 0
last_word (Known End n) = 0
last_word (Known Surface n) = 4
last_word (Known Picture n) = 4
last_word (Known SliceGroup n) = 0
last_word (Known Macroblock n) = 8
last_word (Carried n) = 0
last_word Unknown = 0

rules_within : (h : Header) (p : Progress) (ws : List ℕ) → T (within 12 (last_word h) (rules_of h p ws))
unfolding rules_of
rules_within (Known Noop n) p ws = tt
rules_within (Known End n) p ws = tt
rules_within (Known Surface n) p ws = within_both 12 4 (rule 3 0 (surface_permitted p.stage) ∷ []) (surface_rules ws) tt (surface_within ws)
rules_within (Known Picture n) p ws = within_both 12 4 (rule 3 0 (picture_permitted p.stage) ∷ []) (picture_rules p.frame ws) tt (picture_within p.frame ws)
rules_within (Known SliceGroup n) p ws = tt
rules_within (Known Macroblock n) p ws = macroblock_within p ws
rules_within (Carried n) p ws = tt
rules_within Unknown p ws = tt

stops_by_last : (h : Header) (p : Progress) (ws : List ℕ) (n w : ℕ) → judge h p ws ≡ Err (fault_at n w) → (2 ≤ n) × (n ≤ 12) × (w ≤ last_word h)
unfolding judge
stops_by_last h p ws n w e = by (judged (rules_of h p ws)) refl e
  where
    by : (a : Answer) → judged (rules_of h p ws) ≡ a → concluded a (next_of h p ws) ≡ Err (fault_at n w) → (2 ≤ n) × (n ≤ 12) × (w ≤ last_word h)
    by Accepted s e = let z : ◌≡◌ {A = ℕ} 0 1 = cc in absurd (omega arith)
    by (Err f) s e = let i : f.place ≡ w = cc in let j : f.number ≡ n = cc in rw (i, j) at (judged_within 12 (last_word h) (rules_of h p ws) (rules_within h p ws) s)

-- A command is refused with a number from 2 to 12, at one of its words 0 to 8.
pub stops_within : (h : Header) (p : Progress) (ws : List ℕ) (n w : ℕ) → judge h p ws ≡ Err (fault_at n w) → (2 ≤ n) × (n ≤ 12) × (w ≤ 8)
stops_within h p ws n w e = let k = stops_by_last h p ws n w e in (k.0, k.1, le_trans k.2 (leb→le (last_word h) 8 (few h)))
  where
    few : (h : Header) → T (leb (last_word h) 8)
    few (Known Noop n) = tt
    few (Known End n) = tt
    few (Known Surface n) = tt
    few (Known Picture n) = tt
    few (Known SliceGroup n) = tt
    few (Known Macroblock n) = tt
    few (Carried n) = tt
    few Unknown = tt

-- That word is one of the command's own.
abbrev inside : Header → Bool
inside h = eqb (words_in h) 0 || ltb (last_word h) (words_in h)

pub stops_inside : (x : ℕ) (p : Progress) (ws : List ℕ) (n w : ℕ) → judge (header_of x) p ws ≡ Err (fault_at n w) → eqb (words_in (header_of x)) 0 ≡ false → w < words_in (header_of x)
unfolding table
stops_inside x p ws n w e some =
    let k = stops_by_last (header_of x) p ws n w e in
    let last = by (eqb (words_in (header_of x)) 0) some (every_header inside x tt) in
    omega (arith, k.2, last)
  where
    by : (b : Bool) → b ≡ false → T (b || ltb (last_word (header_of x)) (words_in (header_of x))) → last_word (header_of x) < words_in (header_of x)
    by true f t = absurd (no (sym f))
    by false f t = ltb→lt (last_word (header_of x)) (words_in (header_of x)) t

-- A command that is not refused keeps its rules, and the batch has come as far as it says.
pub goes_on : (h : Header) (p : Progress) (ws : List ℕ) (q : Progress) → judge h p ws ≡ Ok q → (judged (rules_of h p ws) ≡ Accepted) × (q ≡ next_of h p ws)
unfolding judge
goes_on h p ws q e = by (judged (rules_of h p ws)) refl e
  where
    by : (a : Answer) → judged (rules_of h p ws) ≡ a → concluded a (next_of h p ws) ≡ Ok q → (judged (rules_of h p ws) ≡ Accepted) × (q ≡ next_of h p ws)
    by Accepted s e = (s, cc)
    by (Err f) s e = let z : ◌≡◌ {A = ℕ} 0 1 = cc in absurd (omega arith)

-- The number and the place of a command that was judged are those of its table.
pub judge_answer : (h : Header) (p : Progress) (ws : List ℕ) → verdict_answer (judge h p ws) ≡ judged (rules_of h p ws)
unfolding judge
judge_answer h p ws = by (judged (rules_of h p ws))
  where
    by : (a : Answer) → verdict_answer (concluded a (next_of h p ws)) ≡ a
    by Accepted = refl
    by (Err f) = refl

-- A MACROBLOCK is judged by the rules of its picture and those that it keeps by itself, and no others.
pub macroblock_table : (n : ℕ) (p : Progress) (ws : List ℕ) → rules_of (Known Macroblock n) p ws ≡ macroblock_rules p ws
unfolding rules_of
macroblock_table n p ws = refl
