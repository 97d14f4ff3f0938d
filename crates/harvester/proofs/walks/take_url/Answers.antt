use Rattle.std.proofs.Common.{◌+◌, Ok, Err}
use Rattle.harvester.proofs.Ends.{distinct_known, on_any_ok, page_stands, page_err, loss_stands, loss_err, given_after}
use Rattle.harvester.proofs.Standing.{ends_with, goes_with}
use Rattle.harvester.proofs.walks.take_url.Goals as goal

pub add_page-requires-clause-distinct : goal.add_page-requires-clause-distinct
add_page-requires-clause-distinct g c = distinct_known _ _ _ _ _ _ _ c.requires.goes.stands

pub returns-in-Ok-clause-goes : goal.returns-in-Ok-clause-goes
returns-in-Ok-clause-goes g c =
    let e = c.add_page.ensures in
    let was = c.requires.goes in
    let into = c.in-Ok.ensures.fetches was.entries was.kept in
    goes_with (g.F.Fetch.answers c.args.fetcher.now) (g.F.Fetch.faults c.args.fetcher.now) (g.K.Record.stands_for c.fetch_page.new.kept) c.args.job.now into.new into.kept
    c.args.tried.now.lost.items c.add_page.new.known.items (c.args.next + 1) c.add_page.new.mementos.items c.add_page.result
    (page_stands (g.F.Fetch.answers c.args.fetcher.now) (g.F.Fetch.faults c.args.fetcher.now) c.args.job.now was.entries c.args.tried.now.lost.items
    c.args.found.now.known.items c.args.next c.args.found.now.mementos.items was.stands was.given c.requires.within c.index-url.result.now c.index-url.ensures into.new
    c.in-Ok.page into.fetches c.add_page.new.known.items c.add_page.new.mementos.items c.add_page.result e.known e.few_urls e.united e.few_mementos)
    (on_any_ok c.add_page.result
    (given_after (g.F.Fetch.answers c.args.fetcher.now) (g.F.Fetch.faults c.args.fetcher.now) c.args.job.now was.entries c.args.tried.now.lost.items
    c.args.found.now.known.items c.args.next c.args.found.now.mementos.items was.stands was.given c.requires.within c.index-url.result.now c.index-url.ensures into.new
    (Ok c.in-Ok.page) into.fetches))

pub returns-in-Ok-clause-err : goal.returns-in-Ok-clause-err
returns-in-Ok-clause-err g c =
    let e = c.add_page.ensures in
    let was = c.requires.goes in
    let into = c.in-Ok.ensures.fetches was.entries was.kept in
    ends_with (g.F.Fetch.answers c.args.fetcher.now) (g.F.Fetch.faults c.args.fetcher.now) (g.K.Record.stands_for c.fetch_page.new.kept) c.args.job.now into.new into.kept
    c.args.tried.now.lost.items c.add_page.result
    (page_err (g.F.Fetch.answers c.args.fetcher.now) (g.F.Fetch.faults c.args.fetcher.now) c.args.job.now was.entries c.args.tried.now.lost.items
    c.args.found.now.known.items c.args.next c.args.found.now.mementos.items was.stands was.given c.requires.within c.index-url.result.now c.index-url.ensures into.new
    c.in-Ok.page into.fetches c.add_page.result e.many_urls e.many_mementos e.err)

pub returns-in-Err-clause-goes : goal.returns-in-Err-clause-goes
returns-in-Err-clause-goes g c =
    let e = c.lose.ensures in
    let was = c.requires.goes in
    let into = c.in-Err.ensures.fetches was.entries was.kept in
    goes_with (g.F.Fetch.answers c.args.fetcher.now) (g.F.Fetch.faults c.args.fetcher.now) (g.K.Record.stands_for c.fetch_page.new.kept) c.args.job.now into.new into.kept
    c.lose.new.lost.items c.args.found.now.known.items (c.args.next + 1) c.args.found.now.mementos.items c.lose.result
    (loss_stands (g.F.Fetch.answers c.args.fetcher.now) (g.F.Fetch.faults c.args.fetcher.now) c.args.job.now was.entries c.args.tried.now.lost.items
    c.args.found.now.known.items c.args.next c.args.found.now.mementos.items was.stands was.given c.requires.within c.index-url.result.now c.index-url.ensures into.new
    c.in-Err.fault into.fetches c.lose.new.lost.items c.lose.result e.lost e.further e.goes_on)
    (on_any_ok c.lose.result
    (given_after (g.F.Fetch.answers c.args.fetcher.now) (g.F.Fetch.faults c.args.fetcher.now) c.args.job.now was.entries c.args.tried.now.lost.items
    c.args.found.now.known.items c.args.next c.args.found.now.mementos.items was.stands was.given c.requires.within c.index-url.result.now c.index-url.ensures into.new
    (Err c.in-Err.fault) into.fetches))

pub returns-in-Err-clause-err : goal.returns-in-Err-clause-err
returns-in-Err-clause-err g c =
    let e = c.lose.ensures in
    let was = c.requires.goes in
    let into = c.in-Err.ensures.fetches was.entries was.kept in
    ends_with (g.F.Fetch.answers c.args.fetcher.now) (g.F.Fetch.faults c.args.fetcher.now) (g.K.Record.stands_for c.fetch_page.new.kept) c.args.job.now into.new into.kept
    c.lose.new.lost.items c.lose.result
    (loss_err (g.F.Fetch.answers c.args.fetcher.now) (g.F.Fetch.faults c.args.fetcher.now) c.args.job.now was.entries c.args.tried.now.lost.items
    c.args.found.now.known.items c.args.next c.args.found.now.mementos.items was.stands was.given c.requires.within c.index-url.result.now c.index-url.ensures into.new
    c.in-Err.fault into.fetches c.lose.new.lost.items c.lose.result e.same e.err)
