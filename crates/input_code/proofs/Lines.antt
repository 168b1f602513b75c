-- Bytes put behind the text of a line, in the struct that holds it.
use mathlib.Core.List.{List, ◌++◌}
use mathlib.Core.Path.{◌≡◌, refl, sym, ◌∙◌, ap, ap₂, subst}
use Prim.Native.Nat.{ℕ, ◌+◌, ◌-◌, ◌≤◌}
use native.Mathlib.Omega.{arith}
use lib.ListN.{length, take, drop, replicate, length-append, length-replicate}
use lib.Seq.{take-append_seam, take_all, drop_at, drop-drop}
use Rattle.std.proofs.lemmas.List.{drop-replicate}
use Rattle.lists.specs.Appending.{appended}
use Rattle.input.specs.Input.{output_line}
use Rattle.input.specs.declared.OutputLine.{OutputLine}

abbrev zeros : ℕ → List ℕ
zeros n = replicate n 0

abbrev line : List ℕ → ℕ → OutputLine
line bytes len = record { bytes = bytes; len = len }

put_text : (t text : List ℕ) → length t + length text ≤ 256
    → line (appended (output_line t).bytes (length t) text) (length t + length text) ≡ output_line (t ++ text)
put_text t text fits =
    let n = length text in
    let room = (output_line t).bytes in
    let both = length-append t text in
    let long : length room ≡ 256 = length-append t (zeros (256 - length t)) ∙ (omega (arith, length-replicate {A = ℕ} (256 - length t) 0)) in
    let fewer : 256 - length t - n ≡ 256 - length (t ++ text) = omega arith in
    let front : take (length room) (take (length t) room ++ text) ≡ t ++ text =
    ap (λ (x : List ℕ). take (length room) (x ++ text)) (take-append_seam t (zeros (256 - length t)))
    ∙ take_all (length room) (t ++ text) (omega arith) in
    let left : drop (length t + n) room ≡ zeros (256 - length (t ++ text)) =
    sym (drop-drop n (length t) room)
    ∙ ap (drop n) (drop_at t (zeros (256 - length t)) (length t) refl)
    ∙ drop-replicate n (256 - length t) 0
    ∙ ap zeros fewer in
    ap₂ line (ap₂ (λ (x y : List ℕ). x ++ y) front left) (sym both)

pub put_behind : (l : OutputLine) (t text bytes : List ℕ) → l ≡ output_line t → l.len + length text ≤ 256 → bytes ≡ appended l.bytes l.len text
    → line bytes (l.len + length text) ≡ output_line (t ++ text)
put_behind l t text bytes e fits put =
    ap (λ (b : List ℕ). line b (l.len + length text)) put
    ∙ subst (λ (x : OutputLine). x.len + length text ≤ 256 → line (appended x.bytes x.len text) (x.len + length text) ≡ output_line (t ++ text))
    (sym e) (put_text t text) fits
