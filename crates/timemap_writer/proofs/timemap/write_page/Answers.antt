use Rattle.std.proofs.Common.{◌≡◌, ◌==◌, nat_lt, ◌++◌, ◌∙◌, ℕ, List, ap, refl, subst}
use Rattle.std.specs.Prelude.{IfOk}
use Rattle.link_format.specs.Grammar.{Link}
use Rattle.timemap_writer.specs.TimeMap.{head_links, lines_text}
use Rattle.timemap_writer.specs.Pages.{stretch, stretch_links, page_path, page_address, page_text}
use Rattle.timemap_writer.proofs.Stretches.{page_lines}
use Rattle.timemap_writer.proofs.timemap.write_page.Goals as goal

pub returns : goal.returns
unfolding page_text
returns c =
    let base = c.args.service.now in
    let original = c.args.original.now in
    let ms = c.args.mementos.now in
    let page = c.args.page in
    let first = page == 1 in
    let more = nat_lt page c.pages.result in
    let head = head_links base original (page_address base original page) (stretch page ms) in
    let path : c.deref.result.now ≡ page_path page = c.deref.ensures.value ∙ c.in_ok-path.ensures.value in
    let lines = page_lines ms page first more c.requires refl (ap (λ (n : ℕ). nat_lt page n) c.pages.ensures) in
    let whole =
    (λ i. lines_text (head_links base original (base ++ path i ++ original) (c.stretch-stretch.ensures i) ++ stretch_links first more (c.stretch-stretch.ensures i)))
    ∙ ap (λ (links : List Link). lines_text (head ++ links)) lines in
    subst (λ (t : List ℕ). IfOk c.listing.result (λ text. text.items ≡ t)) whole c.listing.ensures
