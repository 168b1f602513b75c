-- The turn of the loop of `walk_within` that takes a run of MACROBLOCK commands at once.
use mathlib.Core.Bool.{false}
use mathlib.Core.List.{List, [], ◌∷◌, ◌++◌, append_assoc, flatten, foldl}
use mathlib.Core.Path.{◌≡◌, refl, sym, ◌∙◌, ap, ap₂}
use Prim.Native.Nat.{ℕ, ◌+◌, ◌-◌, ◌≤◌}
use native.Mathlib.Nat.{add-zero}
use native.Mathlib.Omega.{arith}
use lib.ListN.{length, drop, length-append, length-drop, take-append-drop, get_or-append}
use lib.Seq.{length-take-le, take_at, drop_at, drop-drop}
use Rattle.answers.specs.Answers.{judged, Accepted, Answer}
use Rattle.std.specs.Prelude.{Ok}
use Rattle.headers.specs.Headers.{macroblock_header, table, look_up, header_of}
use Rattle.headers.specs.Words.{word_at}
use Rattle.headers.specs.declared.Header.TheVariants.{Known}
use Rattle.headers.specs.declared.Opcode.TheVariants.{Macroblock}
use Rattle.progress.specs.Progress.{concluded, Verdict}
use Rattle.progress.specs.declared.Progress.{Progress}
use Rattle.placement.specs.Placing.{macroblock_rules}
use Rattle.placement.specs.Progressing.{macroblock_next}
use Rattle.placement.proofs.PositionLaws.{advances}
use Rattle.rows.specs.Rows.{Follow, TakenFrom}
use Rattle.progress.specs.declared.Taken.{Taken}
use Rattle.sequence.specs.Judging.{rules_of, next_of, judge}
use Rattle.batch.specs.Walk.{going, limit, after, step}
use Rattle.batch.proofs.WalkLaws.{command}

-- a MACROBLOCK command that keeps its rules is judged so
kept : (p : Progress) (c : List ℕ) → judged (macroblock_rules p c) ≡ Accepted → judge (Known Macroblock 9) p c ≡ Ok (macroblock_next p c)
unfolding judge rules_of next_of
kept p c a = ap (λ (x : Answer). concluded x (macroblock_next p c)) a

-- one such command, and the words behind it
one : (at : ℕ) (p : Progress) (c ws : List ℕ) → p.stage.ended ≡ false → at + 9 ≤ limit → length c ≡ 9 → word_at c 0 ≡ macroblock_header
    → judged (macroblock_rules p c) ≡ Accepted → foldl step (going at p []) (c ++ ws) ≡ foldl step (going (at + 9) (macroblock_next p c) []) ws
unfolding after
one at p c ws e l nine h a =
    let len = length-append c ws in
    let first : header_of (word_at (c ++ ws) 0) ≡ Known Macroblock 9 = ap header_of (get_or-append c ws 0 0 (omega arith) ∙ h) ∙ (unfold header_of look_up table in refl) in
    command at p e 9 (c ++ ws) (Known Macroblock 9) l (omega arith) (omega arith) first refl
    ∙ ap₂ (λ (v : Verdict) (x : List ℕ). foldl step (after at (at + 9) v) x)
    (ap (judge (Known Macroblock 9) p) (take_at c ws 9 nine) ∙ kept p c a)
    (drop_at c ws 9 nine)

-- such commands one behind the other
run : (at : ℕ) (p : Progress) (cs : List (List ℕ)) (q : Progress) (ws : List ℕ) → p.stage.ended ≡ false → at + length (flatten cs) ≤ limit
    → Follow p cs q → foldl step (going at p []) (flatten cs ++ ws) ≡ foldl step (going (at + length (flatten cs)) q []) ws
unfolding flatten
run at p [] q ws e l f = ap₂ (λ (k : ℕ) (x : Progress). foldl step (going k x []) ws) (sym (add-zero at)) f
run at p (c ∷ cs) q ws e l f =
    let len : length (c ++ flatten cs) ≡ length c + length (flatten cs) = length-append c (flatten cs) in
    let nine = f.0 in
    let sum : at + 9 + length (flatten cs) ≡ at + length (c ++ flatten cs) = omega arith in
    ap (foldl step (going at p [])) (append_assoc c (flatten cs) ws)
    ∙ one at p c (flatten cs ++ ws) e (omega arith) nine f.1 f.2
    ∙ run (at + 9) (macroblock_next p c) cs q ws ((advances p c).ended_stays ∙ e) (omega arith) f.3
    ∙ ap (λ (k : ℕ). foldl step (going k q []) ws) sum

-- a run of them stands there
pub turn_row : (base at : ℕ) (p : Progress) (ws : List ℕ) (r : Taken) → p.stage.ended ≡ false → base + length ws ≤ limit → at ≤ length ws
    → TakenFrom p (drop at ws) r
    → foldl step (going (base + at) p []) (drop at ws) ≡ foldl step (going (base + (at + r.used)) r.progress []) (drop (at + r.used) ws)
turn_row base at p ws r e l m t =
    let left : length (drop at ws) ≡ length ws - at = length-drop at ws in
    let within = t.within in
    let all : length (flatten t.commands) ≡ r.used = ap length t.taken ∙ length-take-le r.used (drop at ws) within in
    let rest = drop r.used (drop at ws) in
    let words : flatten t.commands ++ rest ≡ drop at ws = ap (λ (x : List ℕ). x ++ rest) t.taken ∙ take-append-drop r.used (drop at ws) in
    let come : base + at + length (flatten t.commands) ≡ base + (at + r.used) = omega arith in
    ap (foldl step (going (base + at) p [])) (sym words)
    ∙ run (base + at) p t.commands r.progress rest e (omega arith) t.follow
    ∙ ap₂ (λ (k : ℕ) (x : List ℕ). foldl step (going k r.progress []) x) come (drop-drop r.used at ws)
