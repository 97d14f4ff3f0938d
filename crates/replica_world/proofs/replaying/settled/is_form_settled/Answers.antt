use Rattle.std.proofs.Common.{◌≡◌, ◌⊎◌, inl, inr, ℕ, List, Bor, sym, subst}
use Rattle.replica_world.specs.declared.replaying.form.Form as code_form
use Rattle.replica_world.specs.declared.replaying.form.Form.TheVariants as code
use Rattle.replica_world.specs.Script.{command_of}
use Rattle.replica_world.specs.Spelled.{form_view}
use Rattle.replica_world.specs.Reading.{IsSettledBy}
use Rattle.replica_world.proofs.Settled.{IsRestSettled, form_settled}
use Rattle.replica_world.proofs.replaying.settled.is_form_settled.Goals as goal

said_settled : (form : code_form.Form) (rest : List ℕ) (said : code_form.Form) → form ≡ said → IsRestSettled (form_view said) rest → IsSettledBy (command_of (form_view form)) rest
said_settled form rest said is settled = form_settled (form_view form) rest (subst (λ (f : code_form.Form). IsRestSettled (form_view f) rest) (sym is) settled)

-- a command that is its line
abbrev IsPlain : code_form.Form → Type 0
IsPlain form =
    ((replica : ℕ) × (original : Bor (List ℕ)) × (form ≡ code.Map replica original))
    ⊎ ((replica : ℕ) × (original : Bor (List ℕ)) × (form ≡ code.Gate replica original))
    ⊎ ((replica : ℕ) × (original : Bor (List ℕ)) × (asked : Bor (List ℕ)) × (form ≡ code.GateAt replica original asked))
    ⊎ ((replica : ℕ) × (form ≡ code.Send replica))
    ⊎ ((replica : ℕ) × (merges : ℕ) × (form ≡ code.SendFrom replica merges))
    ⊎ ((replica : ℕ) × (message : ℕ) × (form ≡ code.Deliver replica message))
    ⊎ ((replica : ℕ) × (form ≡ code.Restart replica))

plain_settled : (form : code_form.Form) (rest : List ℕ) → IsPlain form → IsSettledBy (command_of (form_view form)) rest
plain_settled form rest (inl (replica, original, is)) = said_settled form rest (code.Map replica original) is tt
plain_settled form rest (inr (inl (replica, original, is))) = said_settled form rest (code.Gate replica original) is tt
plain_settled form rest (inr (inr (inl (replica, original, asked, is)))) = said_settled form rest (code.GateAt replica original asked) is tt
plain_settled form rest (inr (inr (inr (inl (replica, is))))) = said_settled form rest (code.Send replica) is tt
plain_settled form rest (inr (inr (inr (inr (inl (replica, merges, is)))))) = said_settled form rest (code.SendFrom replica merges) is tt
plain_settled form rest (inr (inr (inr (inr (inr (inl (replica, message, is))))))) = said_settled form rest (code.Deliver replica message) is tt
plain_settled form rest (inr (inr (inr (inr (inr (inr (replica, is))))))) = said_settled form rest (code.Restart replica) is tt

pub returns-in-Take : goal.returns-in-Take
returns-in-Take c = λ is. said_settled c.args.form.now c.args.rest.now _ c.in-Take.is (c.is_block_settled.ensures is)

pub returns-in-Receive : goal.returns-in-Receive
returns-in-Receive c = λ is. said_settled c.args.form.now c.args.rest.now _ c.in-Receive.is (c.is_block_settled-in-Receive.ensures is)

pub returns-in-Ask : goal.returns-in-Ask
returns-in-Ask c = λ is. said_settled c.args.form.now c.args.rest.now _ c.in-Ask.is (c.are_lines_settled.ensures is)

pub returns-in-Map : goal.returns-in-Map
returns-in-Map c = λ _. plain_settled c.args.form.now c.args.rest.now c.in-Map.is

pub returns-in-Map-2 : goal.returns-in-Map-2
returns-in-Map-2 c = λ _. plain_settled c.args.form.now c.args.rest.now c.in-Map.is

pub returns-in-Map-3 : goal.returns-in-Map-3
returns-in-Map-3 c = λ _. plain_settled c.args.form.now c.args.rest.now c.in-Map.is

pub returns-in-Map-4 : goal.returns-in-Map-4
returns-in-Map-4 c = λ _. plain_settled c.args.form.now c.args.rest.now c.in-Map.is

pub returns-in-Map-5 : goal.returns-in-Map-5
returns-in-Map-5 c = λ _. plain_settled c.args.form.now c.args.rest.now c.in-Map.is

pub returns-in-Map-6 : goal.returns-in-Map-6
returns-in-Map-6 c = λ _. plain_settled c.args.form.now c.args.rest.now c.in-Map.is

pub returns-in-Map-7 : goal.returns-in-Map-7
returns-in-Map-7 c = λ _. plain_settled c.args.form.now c.args.rest.now c.in-Map.is
