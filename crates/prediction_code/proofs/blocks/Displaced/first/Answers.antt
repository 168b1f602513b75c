-- `Displaced::first`: the first byte of a block that does not start before the picture.
use Rattle.std.proofs.Common.{ℕ, ◌+◌, ◌*◌, ◌-◌, ◌/◌, min, leb, sym, refl, ap, ◌∙◌, ap₂, arith, ltb-true, leb-true}
use Rattle.prediction.specs.Addresses.{address}
use Rattle.prediction.proofs.Integers.{both}
use Rattle.prediction.proofs.AddressGrows.{address_tiles}
use Rattle.prediction.proofs.LineCode.{first_at}
use Rattle.prediction_code.proofs.blocks.Displaced.first.Goals as goal

pub returns-then-pitch-luma_row : goal.returns-then-pitch-luma_row
returns-then-pitch-luma_row c =
    let s = c.args.self.now in
    let pitch = c.args.surface.pitch in
    let across = (s.across.from + (1 - s.across.b / 32768)) / 4 in
    let apart = both (leb 32 pitch) _ c.if-pitch-luma_row.true in
    let begins =
    first_at s.structure c.args.surface (record { column = s.across.place; row = s.down.place }) s.across.b s.down.b s.across.from s.down.from
    c.first-2.result c.first.result across c.chroma_first.result (omega arith) (omega arith)
    (omega (arith, s.across.starts ∙ ap (λ (n : ℕ). 2 * (2 * n * s.across.place) + s.across.b) s.columns))
    (s.down.starts ∙ ap (λ (n : ℕ). 2 * (2 * n * s.down.place) + s.down.b) s.rows)
    c.first-2.ensures c.first.ensures refl c.chroma_first.ensures
    ∙ ap₂ min (ap (address pitch c.first-2.result) (sym c.row_of-luma_row.ensures.0))
    (ap (λ (n : ℕ). address pitch (2 * across) (c.args.surface.chroma_row + n)) (sym c.row_of.ensures.0)) in
    omega (
      arith,
      c.address-luma.ensures.0,
      begins,
      address_tiles pitch c.first-2.result c.row_of-luma_row.result (2 * across) (c.args.surface.chroma_row + c.row_of.result) (leb-true 32 pitch apart.0)
          (omega (arith, c.first-2.ensures)) (ltb-true _ _ apart.1),
    )

pub returns : goal.returns
returns c =
    let s = c.args.self.now in
    let pitch = c.args.surface.pitch in
    let begins =
    first_at s.structure c.args.surface (record { column = s.across.place; row = s.down.place }) s.across.b s.down.b s.across.from s.down.from
    c.first-2.result c.first.result c.chroma_first-2.result c.chroma_first.result (omega arith) (omega arith)
    (omega (arith, s.across.starts ∙ ap (λ (n : ℕ). 2 * (2 * n * s.across.place) + s.across.b) s.columns))
    (s.down.starts ∙ ap (λ (n : ℕ). 2 * (2 * n * s.down.place) + s.down.b) s.rows)
    c.first-2.ensures c.first.ensures c.chroma_first-2.ensures c.chroma_first.ensures
    ∙ ap₂ min (ap (address pitch c.first-2.result) (sym c.row_of-luma_row.ensures.0))
    (ap (λ (n : ℕ). address pitch (2 * c.chroma_first-2.result) (c.args.surface.chroma_row + n)) (sym c.row_of.ensures.0)) in
    c.min.ensures ∙ ap₂ min c.address-luma.ensures.0 c.address.ensures.0 ∙ sym begins
