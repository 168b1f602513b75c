-- Worked examples of SURFACE and PICTURE commands: what they say, and which rules they break. What is quoted is document 01, and of
-- bit 10 in PICTURE's word 1 document 02 (R-6).
-- To be believed: numbers, places and what the words say are the documents' own.
use Rattle.std.specs.Prelude.{ℕ, ◌+◌, ◌*◌, Bool, true, false, List, [], ◌∷◌, ◌++◌, map, set, replicate}
use Rattle.answers.specs.Answers.{Rule}
use Rattle.answers.specs.Examples.{Example, keeping, breaking, breaking_each}
use Rattle.headers.specs.Examples.{WordReading, reading, turned_in}
use Rattle.picture.specs.Pictures.{codes, picture_rules}
use Rattle.picture.specs.declared.Frame.{Frame}
use Rattle.picture.specs.declared.Picture.{Picture}

-- SURFACE. P1's, and one of 1920 by 1080.
abbrev pub p1_surface : List ℕ
p1_surface = 0x70010004 ∷ 0 ∷ 0x003C00F0 ∷ 0x480003FB ∷ 0x10 ∷ 0 ∷ []

abbrev pub hd_surface : List ℕ
hd_surface = 0x70010004 ∷ 0 ∷ 0x10DC77F0 ∷ 0x48003BFB ∷ 0x440 ∷ 0 ∷ []

-- Width, height, pitch, C.
abbrev pub frame : ℕ → ℕ → ℕ → ℕ → Frame
frame w h p c = record { width = w; height = h; surface = record { pitch = p; chroma_row = c } }

-- "height−1 in 31:18, width−1 in 17:4", "pitch−1 in 19:3", "first chroma row C in 14:0": P1's; 1920 by 1080; each field at its
-- greatest and at its least; every bit that is not its own set
unfoldable pub surface_readings : List (WordReading Frame)
surface_readings =
    reading p1_surface (frame 16 16 128 16)
    ∷ reading hd_surface (frame 1920 1080 1920 1088)
    ∷ reading (set p1_surface 2 0x0003FFF0) (frame 16384 1 128 16)
    ∷ reading (set p1_surface 2 0xFFFC0000) (frame 1 16384 128 16)
    ∷ reading (set p1_surface 3 0x000FFFF8) (frame 16 16 131072 16)
    ∷ reading (set p1_surface 3 0xFFF00007) (frame 16 16 1 16)
    ∷ reading (set p1_surface 4 0x00007FFF) (frame 16 16 128 32767)
    ∷ reading (set p1_surface 4 0xFFFF8000) (frame 16 16 128 0)
    ∷ []

-- Kept: P1's; 1920 by 1080; the greatest and the least of every field, "5: unread"; a pitch of 256.
unfoldable pub surfaces_kept : List (List ℕ)
surfaces_kept =
    p1_surface
    ∷ hd_surface
    ∷ (0x70010004 ∷ 0 ∷ 0xFFFFFFF0 ∷ 0x480FFFFB ∷ 0x7FFF ∷ 0xFFFFFFFF ∷ [])
    ∷ (0x70010004 ∷ 0 ∷ 0 ∷ 0x480003FB ∷ 0 ∷ 0 ∷ [])
    ∷ set p1_surface 3 0x480007FB
    ∷ []

-- "1: zero"; "2: .. 3:0 zero"; "3: 31:28 = 4, 27 = 1, 26:20 zero, .. bit 2 zero, 1:0 = 3"; a pitch of 127, 129 and 64: "the pitch is a
-- multiple of 128"; "4: .. in 14:0, the rest zero"; a pitch of 64 with a bit above C; and no words at all, which count as 0
unfoldable pub surface_examples : List (Example (List ℕ))
surface_examples =
    map keeping surfaces_kept
    ++ breaking_each 4 1 p1_surface 1 (turned_in 0 31 0)
    ++ breaking_each 4 2 p1_surface 2 (turned_in 0x003C00F0 3 0)
    ++ breaking_each 4 3 p1_surface 3 (turned_in 0x480003FB 31 20 ++ turned_in 0x480003FB 2 0)
    ++ breaking_each 5 3 p1_surface 3 (0x480003F3 ∷ 0x48000403 ∷ 0x480001FB ∷ [])
    ++ breaking_each 4 4 p1_surface 4 (turned_in 0x10 31 15)
    ++ record { given = 0x70010004 ∷ 0 ∷ 0x003C00F0 ∷ 0x480001FB ∷ 0x8010 ∷ 0 ∷ []; breaks = (5, 3) ∷ (4, 4) ∷ [] }
    ∷ record { given = []; breaks = (4, 3) ∷ (5, 3) ∷ [] }
    ∷ []

-- PICTURE. Its words, of which "4 to 12: unread".
abbrev pub picture_words : ℕ → ℕ → ℕ → List ℕ
picture_words one two three = 0x7300000B ∷ one ∷ two ∷ three ∷ replicate 9 0xFFFFFFFF

-- Type, forward x and y, backward x and y, W and H, bit 10 of word 1.
abbrev pub picture : ℕ → ℕ → ℕ → ℕ → ℕ → ℕ → ℕ → Bool → Picture
picture t fx fy bx by w h frames =
    record {
      coding = t;
      forward = codes fx fy;
      backward = codes bx by;
      grid = record { columns = w; rows = h };
      frame_pred_frame_dct = frames;
    }

-- P1's; P with W 120 and H 68; B whose f codes all differ, with W 256 and H 175; the same three with bit 10 zero; each field alone has
-- all its bits
unfoldable pub picture_readings : List (WordReading Picture)
picture_readings =
    reading (picture_words 0xFFFF3400 0x200 0) (picture 1 15 15 15 15 1 1 true)
    ∷ reading (picture_words 0xFF913400 0x400 0x00430077) (picture 2 1 9 15 15 120 68 true)
    ∷ reading (picture_words 0x75913400 0x600 0x00AE00FF) (picture 3 1 9 5 7 256 175 true)
    ∷ reading (picture_words 0xFFFF3000 0x200 0) (picture 1 15 15 15 15 1 1 false)
    ∷ reading (picture_words 0xFF913000 0x400 0x00430077) (picture 2 1 9 15 15 120 68 false)
    ∷ reading (picture_words 0x75913000 0x600 0x00AE00FF) (picture 3 1 9 5 7 256 175 false)
    ∷ reading (picture_words 0x000F0000 0 0) (picture 0 15 0 0 0 1 1 false)
    ∷ reading (picture_words 0x00F00000 0 0) (picture 0 0 15 0 0 1 1 false)
    ∷ reading (picture_words 0x0F000000 0 0) (picture 0 0 0 15 0 1 1 false)
    ∷ reading (picture_words 0xF0000000 0 0) (picture 0 0 0 0 15 1 1 false)
    ∷ reading (picture_words 0x00000400 0 0) (picture 0 0 0 0 0 1 1 true)
    ∷ reading (picture_words 0x0000FBFF 0x600 0xFF00FF00) (picture 3 0 0 0 0 1 1 false)
    ∷ reading (picture_words 0 0xFFFFF9FF 0x000000FF) (picture 0 0 0 0 0 256 1 false)
    ∷ reading (picture_words 0 0 0x00FF0000) (picture 0 0 0 0 0 1 256 false)
    ∷ []

-- A PICTURE command on a surface.
pub record OnSurface : Type 0 where
  pub on : Frame
  pub words : List ℕ

abbrev pub rules_on : OnSurface → List Rule
rules_on x = picture_rules x.on x.words

-- On P1's surface; P1's with another word 1 or 2; the f codes, as they stand from bit 31 down: backward y and x, forward y and x;
-- and an I picture of other sizes.
abbrev pub on_p1 : ℕ → ℕ → ℕ → OnSurface
on_p1 one two three = record { on = frame 16 16 128 16; words = picture_words one two three }

abbrev pub first_word : ℕ → OnSurface
first_word w = on_p1 w 0x200 0

abbrev pub second_word : ℕ → OnSurface
second_word w = on_p1 0xFFFF3400 w 0

abbrev pub with_codes : ℕ → ℕ → OnSurface
with_codes two c = on_p1 (c * 0x10000 + 0x3400) two 0

abbrev pub with_size : Frame → ℕ → OnSurface
with_size f three = record { on = f; words = picture_words 0xFFFF3400 0x200 three }

-- "13:12 = 3, .. 9 = 0, 5:0 zero, others free", and f codes that the type does not permit, which "are judged at word 2"
unfoldable pub bit_examples : List (Example OnSurface)
bit_examples =
    map (λ w. breaking 4 1 (first_word w)) (turned_in 0xFFFF3400 13 12 ++ turned_in 0xFFFF3400 9 9 ++ turned_in 0xFFFF3400 5 0)
    ++ map (λ w. keeping (first_word w)) (0xFFFF3400 ∷ turned_in 0xFFFF3400 15 14 ++ turned_in 0xFFFF3400 11 11 ++ turned_in 0xFFFF3400 8 6)
    ++ map (λ w. breaking 5 2 (first_word w)) (turned_in 0xFFFF3400 31 16)

-- "PICTURE bit 10 may now be 0": both ways in I, P and B; and with it zero the other bits of word 1 as above
unfoldable pub bit10_examples : List (Example OnSurface)
bit10_examples =
    keeping (on_p1 0xFFFF3000 0x200 0)
    ∷ keeping (on_p1 0xFFFF3400 0x200 0)
    ∷ keeping (on_p1 0xFF113000 0x400 0)
    ∷ keeping (on_p1 0xFF113400 0x400 0)
    ∷ keeping (on_p1 0x11113000 0x600 0)
    ∷ keeping (on_p1 0x11113400 0x600 0)
    ∷ map (λ w. breaking 4 1 (first_word w)) (turned_in 0xFFFF3000 13 12 ++ turned_in 0xFFFF3000 9 9 ++ turned_in 0xFFFF3000 5 0)
    ++ map (λ w. keeping (first_word w)) (turned_in 0xFFFF3000 15 14 ++ turned_in 0xFFFF3000 11 11 ++ turned_in 0xFFFF3000 8 6)
    ++ map (λ w. breaking 5 2 (first_word w)) (turned_in 0xFFFF3000 31 16)

-- "type in 10:9, 1 I, 2 P, 3 B; others unread"; "With I all f codes are 15; with P forward 1 to 9, backward 15; with B all 1 to 9."
-- Types 0, 2 and 3 with I's codes; type 0 with P's and B's; then I, P and B with each code just permitted and just refused.
unfoldable pub type_examples : List (Example OnSurface)
type_examples =
    map (λ w. keeping (second_word w)) (turned_in 0x200 31 11 ++ turned_in 0x200 8 0)
    ++ map (λ w. breaking 5 2 (second_word w)) (0 ∷ 0x400 ∷ 0x600 ∷ 0xFFFFF9FF ∷ [])
    ++ map (λ c. breaking 5 2 (with_codes 0 c)) (0xFF11 ∷ 0x1111 ∷ [])
    ++ map (λ c. breaking 5 2 (with_codes 0x200 c)) (0xFFFE ∷ 0xFFEF ∷ 0xFEFF ∷ 0xEFFF ∷ 0xFF11 ∷ 0x11FF ∷ 0x1111 ∷ [])
    ++ map (λ c. keeping (with_codes 0x400 c)) (0xFF11 ∷ 0xFF19 ∷ 0xFF91 ∷ 0xFF99 ∷ 0xFF23 ∷ 0xFF45 ∷ 0xFF67 ∷ 0xFF88 ∷ [])
    ++ map (λ c. breaking 5 2 (with_codes 0x400 c)) (0xFF10 ∷ 0xFF01 ∷ 0xFF1A ∷ 0xFFA1 ∷ 0xFF1F ∷ 0xFFF1 ∷ [])
    ++ map (λ c. breaking 5 2 (with_codes 0x400 c)) (0xFE11 ∷ 0xEF11 ∷ 0xF911 ∷ 0x1F11 ∷ 0x1111 ∷ [])
    ++ map (λ c. keeping (with_codes 0x600 c)) (0x1111 ∷ 0x1119 ∷ 0x1191 ∷ 0x1911 ∷ 0x9111 ∷ 0x9999 ∷ 0x2345 ∷ 0x6788 ∷ [])
    ++ map (λ c. breaking 5 2 (with_codes 0x600 c)) (0x1110 ∷ 0x1101 ∷ 0x1011 ∷ 0x0111 ∷ 0x111A ∷ 0x11A1 ∷ 0x1A11 ∷ 0xA111 ∷ [])
    ++ map (λ c. breaking 5 2 (with_codes 0x600 c)) (0x111F ∷ 0x11F1 ∷ 0x1F11 ∷ 0xF111 ∷ 0xFF11 ∷ [])

-- "W−1 in 7:0, H−1 in 23:16, others unread"; "H at most 175, 16(W−1) < width ≤ 16W, 16(H−1) < height ≤ 16H, pitch ≥ 16W, C ≥ 16H":
-- each limit just kept and just broken. The last ones: 1920 by 1080, as B too; with C 1080, the height in place of 1088 rows; H 67
-- and 69; W 119 and 121; every free and unread bit set.
unfoldable pub size_examples : List (Example OnSurface)
size_examples =
    map (λ w. keeping (on_p1 0xFFFF3400 0x200 w)) (turned_in 0 31 24 ++ turned_in 0 15 8)
    ++ map (λ w. breaking 5 3 (on_p1 0xFFFF3400 0x200 w)) (turned_in 0 23 16 ++ turned_in 0 7 0)
    ++ map (λ w. keeping (with_size (frame w 16 128 16) 1)) (17 ∷ 32 ∷ [])
    ++ map (λ w. breaking 5 3 (with_size (frame w 16 128 16) 1)) (16 ∷ 33 ∷ [])
    ++ map (λ h. keeping (with_size (frame 16 h 128 32) 0x00010000)) (17 ∷ 32 ∷ [])
    ++ map (λ h. breaking 5 3 (with_size (frame 16 h 128 32) 0x00010000)) (16 ∷ 33 ∷ [])
    ++ keeping (with_size (frame 1 1 128 16) 0)
    ∷ keeping (with_size (frame 16 2800 128 2800) 0x00AE0000)
    ∷ breaking 5 3 (with_size (frame 16 2816 128 2816) 0x00AF0000)
    ∷ breaking 5 3 (with_size (frame 16 4096 128 4096) 0x00FF0000)
    ∷ keeping (with_size (frame 4096 16 4096 16) 0xFF)
    ∷ keeping (with_size (frame 144 16 144 16) 8)
    ∷ breaking 5 3 (with_size (frame 144 16 143 16) 8)
    ∷ breaking 5 3 (with_size (frame 130 16 128 16) 8)
    ∷ breaking 5 3 (with_size (frame 130 16 130 16) 8)
    ∷ keeping (with_size (frame 16 17 128 32) 0x00010000)
    ∷ breaking 5 3 (with_size (frame 16 17 128 31) 0x00010000)
    ∷ keeping (with_size (frame 1920 1080 1920 1088) 0x00430077)
    ∷ keeping (record { on = frame 1920 1080 1920 1088; words = picture_words 0x75913400 0x600 0x00430077 })
    ∷ breaking 5 3 (with_size (frame 1920 1080 1920 1080) 0x00430077)
    ∷ breaking 5 3 (with_size (frame 1920 1080 1920 1088) 0x00420077)
    ∷ breaking 5 3 (with_size (frame 1920 1080 1920 1104) 0x00440077)
    ∷ breaking 5 3 (with_size (frame 1920 1080 1920 1088) 0x00430076)
    ∷ breaking 5 3 (with_size (frame 1920 1080 2048 1088) 0x00430078)
    ∷ keeping (on_p1 0xFFFFFDC0 0xFFFFFBFF 0xFF00FF00)
    ∷ []

unfoldable pub picture_examples : List (Example OnSurface)
picture_examples = bit_examples ++ bit10_examples ++ type_examples ++ size_examples
