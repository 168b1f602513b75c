-- What is measured under lengths, and that it depends on the ends alone.
use mathlib.Core.Bool.{Bool, true, false}
use mathlib.Core.List.{List, [], ◌∷◌}
use mathlib.Core.Path.{◌≡◌, refl, ap, ◌∙◌}
use Prim.Native.Nat.{◌≤◌, ◌<◌}
use native.Mathlib.Omega.{arith}
use borrow.Author.Tests.{leb-true, leb-false}
use lib.Dec.{leb}
use Rattle.answers.specs.Answers.{Rule, rule, judged, Accepted, Answer}
use Rattle.std.specs.Prelude.{Err}
use Rattle.answers.proofs.Judging.{in_order}
use Rattle.progress.specs.Buffers.{Buffer, source, reconstructed, forward, backward, buffer_number}
use Rattle.batch.specs.Reports.{report_number, report_place, length_in, length_of, buffer_rules, reporting, measured}
use Rattle.batch.specs.declared.Lengths.{Lengths}
use Rattle.batch.specs.declared.Reported.{Reported}
use Rattle.answers.specs.Tables.{first_broken}
use Rattle.batch.specs.Outcomes.{Outcome, enough, short, SameEnds}

module _ (reported : Reported) (l : Lengths) where
  abbrev Long : Buffer → Type 0
  Long b = length_in b reported ≤ length_of b l

  abbrev long : Buffer → Bool
  long b = leb (length_in b reported) (length_of b l)

  below_1 : Long source → (b : Buffer) → buffer_number b < 1 → Long b
  below_1 s source h = s
  below_1 s reconstructed h = absurd (omega arith)
  below_1 s forward h = absurd (omega arith)
  below_1 s backward h = absurd (omega arith)

  below_2 : Long source → Long reconstructed → (b : Buffer) → buffer_number b < 2 → Long b
  below_2 s r source h = s
  below_2 s r reconstructed h = r
  below_2 s r forward h = absurd (omega arith)
  below_2 s r backward h = absurd (omega arith)

  below_3 : Long source → Long reconstructed → Long forward → (b : Buffer) → buffer_number b < 3 → Long b
  below_3 s r f source h = s
  below_3 s r f reconstructed h = r
  below_3 s r f forward h = f
  below_3 s r f backward h = absurd (omega arith)

  all_four : Long source → Long reconstructed → Long forward → Long backward → (b : Buffer) → Long b
  all_four s r f k source = s
  all_four s r f k reconstructed = r
  all_four s r f k forward = f
  all_four s r f k backward = k

  -- one buffer after the other
  abbrev turns : Bool → Bool → Bool → Bool → List Rule
  turns s r f k = rule 13 0 s ∷ rule 13 1 r ∷ rule 13 2 f ∷ rule 13 3 k ∷ []

  lowest_first : measured reported l ≡ reporting reported (first_broken (turns (long source) (long reconstructed) (long forward) (long backward)))
  unfolding measured buffer_rules
  lowest_first = ap (reporting reported) (in_order (buffer_rules reported.extents l) tt)

  pub outcome : Outcome reported l
  outcome = by (long source) (long reconstructed) (long forward) (long backward) refl refl refl refl
    where
      yes : (b : Buffer) → long b ≡ true → Long b
      yes b h = leb-true (length_in b reported) (length_of b l) h

      not_so : (b : Buffer) → long b ≡ false → length_of b l < length_in b reported
      not_so b h = leb-false (length_in b reported) (length_of b l) h

      by : (s r f k : Bool) → long source ≡ s → long reconstructed ≡ r → long forward ≡ f → long backward ≡ k → Outcome reported l
      by false r f k es er ef ek = short source (not_so source es) (λ b h. absurd (omega arith)) (lowest_first ∙ simp es)
      by true false f k es er ef ek = short reconstructed (not_so reconstructed er) (below_1 (yes source es)) (lowest_first ∙ simp (es, er))
      by true true false k es er ef ek = short forward (not_so forward ef) (below_2 (yes source es) (yes reconstructed er)) (lowest_first ∙ simp (es, er, ef))
      by true true true false es er ef ek =
          short backward (not_so backward ek) (below_3 (yes source es) (yes reconstructed er) (yes forward ef)) (lowest_first ∙ simp (es, er, ef, ek))
      by true true true true es er ef ek = enough (all_four (yes source es) (yes reconstructed er) (yes forward ef) (yes backward ek)) (lowest_first ∙ simp (es, er, ef, ek))

-- Document 02, R-8: "The verdict still depends on the end alone." Number and place are the same wherever the touched bytes begin.
pub ends_alone : (r q : Reported) (l : Lengths) → SameEnds r q
    → (report_number (measured r l) ≡ report_number (measured q l)) × (report_place (measured r l) ≡ report_place (measured q l))
unfolding measured buffer_rules
ends_alone r q l same =
    let rules : buffer_rules r.extents l ≡ buffer_rules q.extents l = rw (same source, same reconstructed, same forward, same backward) in
    let answer = judged (buffer_rules q.extents l) in (
      ap (λ (t : List Rule). report_number (reporting r (judged t))) rules ∙ (by answer).0,
      ap (λ (t : List Rule). report_place (reporting r (judged t))) rules ∙ (by answer).1,
    )
  where
    by : (a : Answer) → (report_number (reporting r a) ≡ report_number (reporting q a)) × (report_place (reporting r a) ≡ report_place (reporting q a))
    by Accepted = (refl, refl)
    by (Err f) = (refl, refl)
