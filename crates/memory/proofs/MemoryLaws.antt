-- A state that is stored in memory and read again.
use mathlib.Core.List.{List, [], ◌∷◌, ◌++◌, map}
use mathlib.Core.Path.{◌≡◌, refl, sym, ap, ap₂, ◌∙◌}
use Prim.Native.Nat.{ℕ, zero, suc, ◌+◌, ◌%◌, ◌^◌, ◌<◌}
use native.Mathlib.Nat.{add-zero, zero-add, mod-eq_of_lt}
use native.Mathlib.Omega.{arith}
use lib.ListN.{length, get_or, set, length-append, length-map, length-set, get_or-map}
use Rattle.fields.proofs.Elements.{elements_all}
use Rattle.fields.proofs.Fields.{flag_nonzero}
use Rattle.fields.specs.Bytes.{elements}
use Rattle.std.specs.Prelude.{cond, Option, None, Some, is_some}
use Rattle.answers.specs.declared.Fault.{Fault}
use Rattle.parts.specs.declared.State.{State}
use Rattle.memory.specs.Places.{memory_words, buffer_words}
use Rattle.memory.specs.Memory.{stored_buffer, state_in, halt_number, halt_place, fields_of, placed, room, state_words, Fitting}

length_elements : (xs : List ℕ) (i k : ℕ) → length (elements xs i k) ≡ k
length_elements xs i zero = refl
length_elements xs i (suc k) = ap suc (length_elements xs (suc i) k)

elements_at : (xs : List ℕ) (i k j : ℕ) → j < k → get_or (elements xs i k) j 0 ≡ get_or xs (i + j) 0
elements_at xs i zero j h = absurd (omega arith)
elements_at xs i (suc k) zero h = ap (λ (n : ℕ). get_or xs n 0) (sym (add-zero i))
elements_at xs i (suc k) (suc j) h =
    elements_at xs (suc i) k j (omega arith) ∙ ap (λ (n : ℕ). get_or xs n 0) (let e : suc i + j ≡ i + suc j = omega arith in e)

pub buffer_length : (m : List ℕ) → length (stored_buffer m) ≡ buffer_words
unfolding stored_buffer
buffer_length m = length-map (elements m 0 buffer_words) (λ w. w % 2 ^ 32) ∙ length_elements m 0 buffer_words

pub buffer_at : (m : List ℕ) (i : ℕ) → i < buffer_words → get_or (stored_buffer m) i 0 ≡ get_or m i 0 % 2 ^ 32
unfolding stored_buffer
buffer_at m i h =
    get_or-map (λ w. w % 2 ^ 32) (elements m 0 buffer_words) i 0
    ∙ ap (λ (n : ℕ). n % 2 ^ 32) (elements_at m 0 buffer_words i h ∙ ap (λ (n : ℕ). get_or m n 0) (zero-add i))

-- Words of 32 bits are not cut.
uncut : (xs : List ℕ) (i k : ℕ) → ((j : ℕ) → get_or xs j 0 < 2 ^ 32) → map (λ w. w % 2 ^ 32) (elements xs i k) ≡ elements xs i k
uncut xs i zero h = refl
uncut xs i (suc k) h = ap₂ (λ (w : ℕ) (ws : List ℕ). w ∷ ws) (mod-eq_of_lt (h i)) (uncut xs (suc i) k h)

-- The buffer as its words, one by one: then memory computes.
listed : (s : State) → Fitting s → elements s.buffer 0 buffer_words ≡ s.buffer
listed s f = elements_all s.buffer buffer_words f.held_words

abbrev memory_with : State → List ℕ → List ℕ
memory_with s buffer = placed (fields_of s) (buffer ++ room)

buffer_back : (s : State) → Fitting s → stored_buffer (memory_with s (elements s.buffer 0 buffer_words)) ≡ s.buffer
unfolding stored_buffer
buffer_back s f = uncut s.buffer 0 buffer_words f.buffer ∙ listed s f

-- The fault is read again by its flag, its number and its place.
fault_back : (x : Option Fault) → cond (is_some x) (Some (record { number = halt_number x; place = halt_place x })) None ≡ x
fault_back None = refl
fault_back (Some f) = refl

-- What is read of a state that was stored is that state.
pub stored_read : (s : State) → Fitting s → state_in (state_words s) ≡ s
unfolding state_in state_words
stored_read s f =
    ap (λ (b : List ℕ). state_in (memory_with s b)) (sym (listed s f))
    ∙ simp (
      flag_nonzero,
      mod-eq_of_lt f.width,
      mod-eq_of_lt f.height,
      mod-eq_of_lt f.pitch,
      mod-eq_of_lt f.chroma_row,
      mod-eq_of_lt f.coding,
      mod-eq_of_lt f.forward_x,
      mod-eq_of_lt f.forward_y,
      mod-eq_of_lt f.backward_x,
      mod-eq_of_lt f.backward_y,
      mod-eq_of_lt f.columns,
      mod-eq_of_lt f.rows,
      mod-eq_of_lt f.column,
      mod-eq_of_lt f.row,
      mod-eq_of_lt f.kind,
      mod-eq_of_lt f.five,
      mod-eq_of_lt f.six,
      mod-eq_of_lt f.seven,
      mod-eq_of_lt f.eight,
      mod-eq_of_lt f.at,
      mod-eq_of_lt f.number,
      fault_back s.fault,
      buffer_back s f,
    )

placed_length : (fields : List (ℕ × ℕ)) (m : List ℕ) → length (placed fields m) ≡ length m
placed_length [] m = refl
placed_length ((place, word) ∷ rest) m = placed_length rest (set m place word) ∙ length-set m place word

-- The words of a state are as many as the memory has that is lent.
pub stored_length : (s : State) → Fitting s → length (state_words s) ≡ memory_words
unfolding state_words
stored_length s f = placed_length (fields_of s) (s.buffer ++ room) ∙ length-append s.buffer room ∙ ap (λ (n : ℕ). n + length room) f.held_words
