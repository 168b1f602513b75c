-- Which numbers and places the check of a batch can answer with, 14 to 16 not among them. What is quoted is document 01.
-- Proved: of `report`, by `check_numbers` (proofs/Numbers.antt).
use Rattle.std.specs.Prelude.{ℕ, ◌≤◌, ◌<◌, ◌≡◌}
use Rattle.batch.specs.Walk.{limit}

-- So many words are refused, the buffers apart: "1 words run out in a command or before END: words given", "27 .. 4294967295", or a
-- rule is broken at one of the words.
pub data RefusedBy (words n place : ℕ) : Type 0 where
  run_out : n ≡ 1 → place ≡ words → RefusedBy words n place
  broken : 2 ≤ n → n ≤ 12 → place < words → RefusedBy words n place
  too_many : n ≡ 27 → place ≡ limit → RefusedBy words n place

-- "0 accepted: 0"; "13 buffer too short: lowest such buffer", of buffers 0 to 3.
pub data CheckedBy (words n place : ℕ) : Type 0 where
  accepted : n ≡ 0 → place ≡ 0 → CheckedBy words n place
  refused : RefusedBy words n place → CheckedBy words n place
  short_buffer : n ≡ 13 → place ≤ 3 → CheckedBy words n place
