-- `Displaced::end`: the end of a block that does not start before the picture.
use Rattle.std.proofs.Common.{ℕ, ◌+◌, ◌*◌, ◌/◌, max, leb, sym, refl, ap, ◌∙◌, ap₂, arith, ltb-true, leb-true}
use Rattle.prediction.specs.Addresses.{address}
use Rattle.prediction.proofs.Integers.{both}
use Rattle.prediction.proofs.AddressGrows.{address_tiles}
use Rattle.prediction.proofs.LineCode.{end_at}
use Rattle.prediction_code.proofs.blocks.Displaced.end.Goals as goal

pub returns-then-pitch-luma_row : goal.returns-then-pitch-luma_row
returns-then-pitch-luma_row c =
    let s = c.args.self.now in
    let pitch = c.args.surface.pitch in
    let column = (s.across.from + 1) / 2 + 15 in
    let apart = both (leb 32 pitch) _ c.if-pitch-luma_row.true in
    let ends =
    end_at s.structure c.args.surface (record { column = s.across.place; row = s.down.place }) s.across.b s.down.b s.across.from s.down.from
    column c.last.result c.chroma_last-2.result c.chroma_last.result (omega arith) (omega arith)
    (omega (arith, s.across.starts ∙ ap (λ (n : ℕ). 2 * (2 * n * s.across.place) + s.across.b) s.columns))
    (s.down.starts ∙ ap (λ (n : ℕ). 2 * (2 * n * s.down.place) + s.down.b) s.rows)
    refl (omega (arith, c.last.ensures, s.rows)) (omega (arith, c.chroma_last-2.ensures, s.columns)) (omega (arith, c.chroma_last.ensures, s.rows))
    ∙ ap₂ (λ (m n : ℕ). max (m + 1) (n + 1)) (ap (address pitch column) (sym c.row_of-luma_row.ensures.0))
    (ap (λ (n : ℕ). address pitch (2 * c.chroma_last-2.result + 1) (c.args.surface.chroma_row + n)) (sym c.row_of.ensures.0)) in
    omega (
      arith,
      c.address-cr.ensures.0,
      ends,
      address_tiles pitch column c.row_of-luma_row.result (2 * c.chroma_last-2.result + 1) (c.args.surface.chroma_row + c.row_of.result) (leb-true 32 pitch apart.0)
          (omega (arith, c.chroma_last-2.ensures, s.columns)) (ltb-true _ _ apart.1),
    )

pub returns : goal.returns
returns c =
    let s = c.args.self.now in
    let pitch = c.args.surface.pitch in
    let ends =
    end_at s.structure c.args.surface (record { column = s.across.place; row = s.down.place }) s.across.b s.down.b s.across.from s.down.from
    c.last-2.result c.last.result c.chroma_last-2.result c.chroma_last.result (omega arith) (omega arith)
    (omega (arith, s.across.starts ∙ ap (λ (n : ℕ). 2 * (2 * n * s.across.place) + s.across.b) s.columns))
    (s.down.starts ∙ ap (λ (n : ℕ). 2 * (2 * n * s.down.place) + s.down.b) s.rows)
    (omega (arith, c.last-2.ensures, s.columns)) (omega (arith, c.last.ensures, s.rows)) (omega (arith, c.chroma_last-2.ensures, s.columns)) (omega (arith, c.chroma_last.ensures, s.rows))
    ∙ ap₂ (λ (m n : ℕ). max (m + 1) (n + 1)) (ap (address pitch c.last-2.result) (sym c.row_of-luma_row.ensures.0) ∙ sym c.address.ensures.0)
    (ap (λ (n : ℕ). address pitch (2 * c.chroma_last-2.result + 1) (c.args.surface.chroma_row + n)) (sym c.row_of.ensures.0) ∙ sym c.address-cr.ensures.0) in
    omega (arith, c.max.ensures, ends)
