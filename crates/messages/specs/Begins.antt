-- With which tokens nodes begin.
use Rattle.std.specs.Prelude.{Bool, true, false, not, ◌||◌, Some, None, Option}
use Rattle.grammar.specs.declared.Mark.TheVariants.{Fun, Let, If, True, False}
use Rattle.grammar.specs.Token.{is}
use Rattle.lexer.specs.declared.token.Token.{Token}
use Rattle.lexer.specs.declared.token.Token.TheVariants.{Mark, Name, Number, End}
use Rattle.lexer.specs.Shown.{shown}

-- a name behind this token is opened, and not used
abbrev pub opens : Option Token → Bool
opens None = false
opens (Some t) = is Fun (shown t) || is Let (shown t)

-- a number, a truth, a name that is used, `fun`, `let` or `if`
abbrev pub begins_node : Option Token → Token → Bool
begins_node before (Name x) = not (opens before)
begins_node before (Number x) = true
begins_node before (Mark m) = is True (shown (Mark m)) || (is False (shown (Mark m)) ||
    (is Fun (shown (Mark m)) || (is Let (shown (Mark m)) || is If (shown (Mark m)))))
begins_node before End = false
