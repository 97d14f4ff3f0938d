use Rattle.std.proofs.Common.{◌≡◌, ◌<◌, ℕ, Bool, not, nat_eq, bit_and, get_or, refl, arith}
use Rattle.std.proofs.lemmas.Bool.{agree_below_at}
use Rattle.link_format.specs.Scan.{passes, flag}
use Rattle.link_format.specs.declared.bytes.Class.{Class}
use Rattle.link_format.specs.declared.bytes.Class.TheVariants.{Blank, Target, Name, Token, Quotable, Plain}
use Rattle.link_format.specs.declared.bytes.TheConstants.{CLASSES}
use Rattle.link_format.proofs.bytes.Class.has.Goals as goal

-- what the table says of a byte
abbrev listed : Class → ℕ → Bool
listed class b = not (nat_eq (bit_and (get_or CLASSES b 0) (flag class)) 0)

-- the table is held against the rule at each of the 256 bytes, by computing
table_is : (class : Class) (b : ℕ) → b < 256 → listed class b ≡ passes class b
table_is Blank b h = agree_below_at (listed Blank) (passes Blank) 256 b refl h
table_is Target b h = agree_below_at (listed Target) (passes Target) 256 b refl h
table_is Name b h = agree_below_at (listed Name) (passes Name) 256 b refl h
table_is Token b h = agree_below_at (listed Token) (passes Token) 256 b refl h
table_is Quotable b h = agree_below_at (listed Quotable) (passes Quotable) 256 b refl h
table_is Plain b h = agree_below_at (listed Plain) (passes Plain) 256 b refl h

pub returns : goal.returns
returns c = rw c.flag.ensures (table_is c.args.self c.args.b (omega arith))
