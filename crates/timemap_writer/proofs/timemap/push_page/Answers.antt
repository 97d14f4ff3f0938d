use Rattle.std.proofs.Common.{◌-◌, refl, length, arith}
use Rattle.std.proofs.lemmas.Option.{slice_get_read}
use Rattle.timemap_writer.proofs.Pieces.{page_pieces}
use Rattle.timemap_writer.proofs.timemap.push_page.Goals as goal

pub returns : goal.returns
returns c =
    let ms = c.args.mementos.now in
    let first = slice_get_read ms (length ms) 0 c.index-mementos-0.result refl (omega (arith, c.requires)) c.index-mementos-0.is in
    let last = slice_get_read ms (length ms) (length ms - 1) c.index-mementos-mementos.result refl (omega (arith, c.requires)) c.index-mementos-mementos.is in
    rw (
      c.in_ok-push.ensures.items,
      c.in_ok-extend_from_slice-9.ensures.items,
      c.in_ok-extend_from_slice-8.ensures.items,
      c.in_ok-extend_from_slice-7.ensures.items,
      c.in_ok-extend_from_slice-6.ensures.items,
      c.in_ok-extend_from_slice-5.ensures.items,
      c.in_ok-extend_from_slice-4.ensures.items,
      c.in_ok-write_decimal.ensures.ok,
      c.in_ok-extend_from_slice-3.ensures.items,
      c.in_ok-extend_from_slice-2.ensures.items,
      c.in_ok-extend_from_slice.ensures.items,
      c.as_bytes.ensures.value,
      c.base.ensures.value,
    )
    (page_pieces c.args.out.now.items _ _ _ _ _ c.index-mementos-0.result c.index-mementos-mementos.result ms first last
    c.datetime.ensures.value c.datetime.ensures.plain c.datetime-2.ensures.value c.datetime-2.ensures.plain)
