use Rattle.std.proofs.Common.{sym}
use Rattle.replica_world.proofs.Pages.{no_page}
use Rattle.replica_world.proofs.replaying.perform.page.Goals as goal

pub returns-in-Err-TooLong : goal.returns-in-Err-TooLong
returns-in-Err-TooLong c = no_page c.args.address.now c.in-Some.address.now c.args.body.now c.in-Err-TooLong.field-0 (sym c.in-Some.ensures) (λ same. cc) c.in-Err-TooLong.ensures

pub returns-in-Err-Links : goal.returns-in-Err-Links
returns-in-Err-Links c = no_page c.args.address.now c.in-Some.address.now c.args.body.now c.in-Err-Links.field-0 (sym c.in-Some.ensures) (λ same. cc) c.in-Err-Links.ensures

pub returns-in-Err-BadBase : goal.returns-in-Err-BadBase
returns-in-Err-BadBase c = no_page c.args.address.now c.in-Some.address.now c.args.body.now c.in-Err-BadBase.field-0 (sym c.in-Some.ensures) (λ same. cc) c.in-Err-BadBase.ensures
