-- `text_of`: the text of each case of a report.
use mathlib.Core.List.{List, [], ◌∷◌, ◌++◌}
use mathlib.Core.Path.{◌≡◌, sym, ◌∙◌, ap}
use Prim.Native.Nat.{ℕ, ◌+◌, ◌*◌, ◌≤◌}
use native.Mathlib.Omega.{arith}
use lib.ListN.{length, length-append}
use Rattle.std.specs.Prelude.{Err}
use Rattle.batch.specs.declared.Refusal.{Refusal}
use Rattle.input.specs.Text.{ascii, spaced}
use Rattle.input.specs.Line.{text_of}
use Rattle.input_code.proofs.Texts.{then_spaced, spaced_few}
use Rattle.input_code.proofs.printing.text_of.Goals as goal

-- a word and some numbers
few : (word : List ℕ) (ns : List ℕ) (text : List ℕ) → text ≡ word ++ spaced ns → length text ≤ length word + 21 * length ns
few word ns text e = omega (arith, ap length e ∙ length-append word (spaced ns), spaced_few ns)

pub put_numbers-requires-in-Err-Short : goal.put_numbers-requires-in-Err-Short
put_numbers-requires-in-Err-Short c =
    let r = c.refused-text in
    omega (arith, few (ascii "refuse") (c.in-Err-Short.fault.number ∷ c.in-Err-Short.fault.place ∷ []) r.result r.ensures, ap length c.values_of-in-Err-Short.ensures)

pub returns-in-Ok : goal.returns-in-Ok
returns-in-Ok c =
    let v = c.values_of in
    let is : c.put_numbers.new.self ≡ ascii "accept" ++ spaced v.result =
    c.put_numbers.ensures ∙ ap (λ (x : List ℕ). x ++ spaced v.result) (c.put.ensures ∙ ap (λ (x : List ℕ). x ++ ascii "accept") c.new-text.ensures) in (
      is ∙ ap (λ (ns : List ℕ). ascii "accept" ++ spaced ns) v.ensures ∙ ap text_of (sym c.in-Ok.is),
      omega (arith, few (ascii "accept") v.result c.put_numbers.new.self is, ap length v.ensures),
    )

pub returns-in-Err-Short : goal.returns-in-Err-Short
returns-in-Err-Short c =
    let v = c.values_of-in-Err-Short in
    let two = c.in-Err-Short.fault.number ∷ c.in-Err-Short.fault.place ∷ [] in
    let text = c.put_numbers-in-Err-Short.new.self in
    let is : text ≡ ascii "refuse" ++ spaced (two ++ v.result) =
    c.put_numbers-in-Err-Short.ensures ∙ ap (λ (x : List ℕ). x ++ spaced v.result) c.refused-text.ensures ∙ then_spaced (ascii "refuse") two v.result in (
      is ∙ ap (λ (ns : List ℕ). ascii "refuse" ++ spaced (two ++ ns)) v.ensures ∙ ap (λ (x : Refusal). text_of (Err x)) (sym (rw c.in-Err-Short.is at c.in-Err-Short.field-0-is)) ∙ ap text_of (sym c.in-Err-Short.is),
      omega (arith, few (ascii "refuse") (two ++ v.result) text is, ap length v.ensures),
    )

pub returns-in-Err-Broken : goal.returns-in-Err-Broken
returns-in-Err-Broken c =
    let r = c.refused in (
      r.ensures ∙ ap (λ (x : Refusal). text_of (Err x)) (sym (rw c.in-Err-Broken.is at c.in-Err-Broken.field-0-is)) ∙ ap text_of (sym c.in-Err-Broken.is),
      omega (arith, few (ascii "refuse") (c.in-Err-Broken.fault.number ∷ c.in-Err-Broken.fault.place ∷ []) r.result r.ensures),
    )
