-- The lines of a trace, and the shares of a table.
use Rattle.std.specs.Prelude.{ℕ, ◌-◌, ◌*◌, ◌/◌, ◌==◌, ◌||◌, ◌&&◌, min, Bool, nat_le, List, [], ◌∷◌, length, take, not, is_some, is_ok, Option, Some, None, Result, Ok, Err, if◌then◌else◌}
use Rattle.std.specs.Str.{is_utf8}
use Rattle.std.specs.List.{list_any}
use Rattle.lru_lines.specs.Lines.{number_of, parts_of}
use Rattle.trace_player_inside.specs.declared.player.Request.{Request}
use Rattle.trace_player_inside.specs.declared.numbers.NumberFault.{NumberFault}
use Rattle.trace_player_inside.specs.declared.requests.LineFault.{LineFault}
use Rattle.trace_player_inside.specs.declared.requests.LineFault.TheVariants.{NotText, TooMany, NoHeader, Key, Size}
use Rattle.trace_player_inside.specs.declared.requests.Format.{Format}
use Rattle.trace_player_inside.specs.declared.requests.Format.TheVariants.{Words, Commas}
use Rattle.trace_player_inside.specs.Numbers.{number_read}

-- a space, a tab, or another end of a line or a page
abbrev pub is_blank : ℕ → Bool
is_blank byte = byte == 32 || nat_le 9 byte && nat_le byte 13

-- a text from its first byte on that is no blank
abbrev pub from_word : List ℕ → List ℕ
from_word [] = []
from_word (b ∷ text) = if is_blank b then from_word text else b ∷ text

-- a text from its first blank on
abbrev pub from_blank : List ℕ → List ℕ
from_blank [] = []
from_blank (b ∷ text) = if is_blank b then b ∷ text else from_blank text

-- the first word of a text, empty where there is none
abbrev pub word_of : List ℕ → List ℕ
word_of text = take (length (from_word text) - length (from_blank (from_word text))) (from_word text)

-- what stands behind the first word
abbrev pub behind : List ℕ → List ℕ
behind text = from_blank (from_word text)

-- the request that two words write
abbrev pub requested_by : Option ℕ → Option ℕ → Option Request
requested_by (Some key) (Some size) = Some (record { key = key; size = size })
requested_by (Some key) None = None
requested_by None size = None

abbrev pub requested : List ℕ → List ℕ → Option Request
requested key size = requested_by (number_of key) (number_of size)

-- the request of a line of two words, a key and a size, or of three, with a time before them
abbrev pub request_in : List ℕ → Option Request
request_in line =
    if length (word_of (behind (behind line))) == 0 then requested (word_of line) (word_of (behind line))
    else (if length (word_of (behind (behind (behind line)))) == 0 then requested (word_of (behind line)) (word_of (behind (behind line))) else None)

-- the request of two numbers, or else what is wrong; where neither is one, that is told of the key
abbrev pub of_numbers : Result ℕ NumberFault → Result ℕ NumberFault → Result Request LineFault
of_numbers (Ok key) (Ok size) = Ok (record { key = key; size = size })
of_numbers (Ok key) (Err fault) = Err (Size fault)
of_numbers (Err fault) size = Err (Key fault)

abbrev pub of_fields : List ℕ → List ℕ → Result Request LineFault
of_fields key size = of_numbers (number_read key) (number_read size)

-- the request of a line of words, or else what is wrong with it
abbrev pub words_read : List ℕ → Result Request LineFault
words_read line =
    if length (word_of (behind (behind line))) == 0 then of_fields (word_of line) (word_of (behind line))
    else (if length (word_of (behind (behind (behind line)))) == 0 then of_fields (word_of (behind line)) (word_of (behind (behind line))) else Err TooMany)

-- the word of a cell, empty where it has none; a cell of more than one word stays as it is, and is no number
abbrev pub cell_of : List ℕ → List ℕ
cell_of cell = if length (word_of (behind cell)) == 0 then word_of cell else cell

-- the request of a row's cells: a time, which is read past, a key and a size
abbrev pub of_cells : List (List ℕ) → Result Request LineFault
of_cells [] = of_fields [] []
of_cells (time ∷ []) = of_fields [] []
of_cells (time ∷ key ∷ []) = of_fields (cell_of key) []
of_cells (time ∷ key ∷ size ∷ []) = of_fields (cell_of key) (cell_of size)
of_cells (time ∷ key ∷ size ∷ more ∷ cells) = Err TooMany

-- cells stand between commas
abbrev pub cells_read : List ℕ → Result Request LineFault
cells_read line = of_cells (parts_of 44 line)

abbrev pub line_read : Format → List ℕ → Result Request LineFault
line_read Words line = words_read line
line_read Commas line = cells_read line

-- of a line that is no UTF-8 that is told, whatever else is wrong with it
abbrev pub told_as_text : List ℕ → Result Request LineFault → Result Request LineFault
told_as_text line (Ok request) = Ok request
told_as_text line (Err fault) = Err (if is_utf8 line then fault else NotText)

-- the request of a line in a format, or else what is wrong with it
abbrev pub request_read : Format → List ℕ → Result Request LineFault
request_read format line = told_as_text line (line_read format line)

-- the format of a trace by its first line: a line with a comma that is no request of words is a header, but not where it is
-- itself a row with commas
abbrev pub format_told : List ℕ → Result Format LineFault
format_told first =
    if is_some (request_in first) || not (list_any (λ byte. byte == 44) first) then Ok Words
    else (if is_ok (request_read Commas first) then Err NoHeader else Ok Commas)

-- the format of the lines behind a line, and its request
abbrev pub told_on : Format → Result Request LineFault → Result (Format × Option Request) LineFault
told_on format (Ok request) = Ok (format, Some request)
told_on format (Err fault) = Err fault

-- of a first line: a header has no request
abbrev pub first_read : Result Format LineFault → List ℕ → Result (Format × Option Request) LineFault
first_read (Ok Words) line = told_on Words (request_read Words line)
first_read (Ok Commas) line = Ok (Commas, None)
first_read (Err fault) line = Err fault

-- what is read of a line, once the lines before it have told a format, or else of the first line
abbrev pub next_read : Option Format → List ℕ → Result (Format × Option Request) LineFault
next_read (Some format) line = told_on format (request_read format line)
next_read None line = first_read (format_told line) line

-- a share of a whole in hundredths of a percent, rounded down
abbrev pub share_of : ℕ → ℕ → Option ℕ
share_of part whole = if whole == 0 then None else Some (min (part * 10000 / whole) 10000)
