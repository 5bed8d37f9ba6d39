-- The classes of bytes in src, as the definition of tokens names them.
use Rattle.fc_syntax.specs.Tokens.{ByteClass, Blank, LineFeed, Opening, Closing, Semicolon, Plain, Foreign}
use Rattle.fc_lex.specs.declared.class.Class.{Class}
use Rattle.fc_lex.specs.declared.class.Class.TheVariants as c

-- the class of the same name
abbrev pub as_byte_class : Class → ByteClass
as_byte_class c.Blank = Blank
as_byte_class c.LineFeed = LineFeed
as_byte_class c.Opening = Opening
as_byte_class c.Closing = Closing
as_byte_class c.Semicolon = Semicolon
as_byte_class c.Plain = Plain
as_byte_class c.Foreign = Foreign
