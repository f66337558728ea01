-- The token that a word is.
use Rattle.std.specs.Prelude.{ℕ, ◌+◌, ◌-◌, ◌*◌, Bool, cond, ◌&&◌, List, length, Some, None, codes, Option, ◌==◌, nat_lt}
use Rattle.std.specs.Str.Parse.{digits_value}
use Rattle.std.specs.Char.{is_ascii_digit}
use Rattle.std.specs.Str.{bytes_eq, all_ascii_digits}
use Rattle.tokens.specs.declared.token.Token.{Token}
use Rattle.tokens.specs.declared.token.Token.TheVariants.{Mark, Ticket, Open, Actor, Times, NotBefore, Pin, Channel, Writes, Reads, Ceiling, Cut, Keep, Withdraw, Rows, Number, Other}

-- the number that a word writes, if it is one digit or more, nothing else, and below 2^32
abbrev pub numeral : List ℕ → Option ℕ
numeral w = cond (nat_lt 0 (length w) && (all_ascii_digits w && nat_lt (digits_value 10 w) 4294967296)) (Some (digits_value 10 w)) None

-- n with one more digit
abbrev pub with_digit : ℕ → ℕ → Option ℕ
with_digit n c = cond (is_ascii_digit c && nat_lt (n * 10 + (c - 48)) 4294967296) (Some (n * 10 + (c - 48))) None

-- the keyword of a part of a row
abbrev pub part_word : List ℕ → Token
part_word w =
    cond (bytes_eq w (codes "times")) Times
    (cond (bytes_eq w (codes "not-before")) NotBefore
    (cond (bytes_eq w (codes "pin")) Pin
    (cond (bytes_eq w (codes "writes")) Writes
    (cond (bytes_eq w (codes "reads")) Reads
    (cond (bytes_eq w (codes "ceiling")) Ceiling Other)))))

abbrev pub call_word : List ℕ → Token
call_word w =
    cond (bytes_eq w (codes "mark")) Mark
    (cond (bytes_eq w (codes "ticket")) Ticket
    (cond (bytes_eq w (codes "open")) Open
    (cond (bytes_eq w (codes "actor")) Actor
    (cond (bytes_eq w (codes "channel")) Channel
    (cond (bytes_eq w (codes "cut")) Cut
    (cond (bytes_eq w (codes "keep")) Keep
    (cond (bytes_eq w (codes "withdraw")) Withdraw
    (cond (bytes_eq w (codes "rows")) Rows (part_word w)))))))))

abbrev pub number_or : Option ℕ → Token → Token
number_or (Some n) t = Number n
number_or None t = t

abbrev pub token_of : List ℕ → Token
token_of w = number_or (numeral w) (call_word w)

-- the number that a token is
abbrev pub as_number : Token → Option ℕ
as_number (Number n) = Some n
as_number Mark = None
as_number Ticket = None
as_number Open = None
as_number Actor = None
as_number Times = None
as_number NotBefore = None
as_number Pin = None
as_number Channel = None
as_number Writes = None
as_number Reads = None
as_number Ceiling = None
as_number Cut = None
as_number Keep = None
as_number Withdraw = None
as_number Rows = None
as_number Other = None

-- a number for each token, another one for another token
abbrev pub code_of : Token → ℕ
code_of Mark = 0
code_of Ticket = 1
code_of Open = 2
code_of Actor = 3
code_of Times = 4
code_of NotBefore = 5
code_of Pin = 6
code_of Channel = 7
code_of Writes = 8
code_of Reads = 9
code_of Ceiling = 10
code_of Cut = 11
code_of Keep = 12
code_of Withdraw = 13
code_of Rows = 14
code_of Other = 15
code_of (Number n) = 16 + n

abbrev pub same : Token → Token → Bool
same a b = code_of a == code_of b
