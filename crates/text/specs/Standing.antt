-- What the token in hand stands for.
use Rattle.grammar.specs.Walking.{Stand}
use Rattle.lexer.specs.Shown.{shown}
use Rattle.lexer.specs.declared.token.Placed.{Placed}

abbrev pub stand : Placed → Stand
stand p = record { token = shown p.token; place = p.place; stop = p.stop }
