-- The messages that reading gives back as they were written. Nothing here is about one kind of answer.
use Rattle.std.specs.Prelude.{ℕ, ◌≤◌, ◌<◌, ◌≡◌, true, List, length}
use Rattle.lists.specs.Lists.{all}
use Rattle.octets.specs.Octets.{is_name, is_value}
use Rattle.message.specs.Message.{Start, request, response, event, Field, Message}
use Rattle.message.specs.StartLines.{is_method_name}
use Rattle.message.specs.Fields.{trim_end}
use Rattle.message.specs.Known.{once_each, names_of, value_of}
use Rattle.message.specs.Reading.{agrees}
use Rattle.message.specs.declared.Known.TheVariants.{ContentLength}
use Rattle.lists.specs.Lists.{run, All}
use Rattle.octets.specs.Octets.{is_blank}
use Rattle.answer.specs.Written.{written}

-- names as the start line has them, request-ids in range, three-digit statuses
abbrev pub StartFits : Start (List ℕ) → Type 0
StartFits (request name id) = (is_method_name name ≡ true) × (id < 4294967296)
StartFits (response id status state) = (id < 4294967296) × (status < 1000)
StartFits (event name id state) = (is_method_name name ≡ true) × (id < 4294967296)

-- a name of 1 to 64 name bytes, a value of value bytes with no blank at either end
pub record FieldFits (f : Field (List ℕ)) : Type 0 where
  pub some : 1 ≤ length f.name
  pub most : length f.name ≤ 64
  pub names : all is_name f.name ≡ true
  pub values : all is_value f.value ≡ true
  pub front : run is_blank f.value ≡ 0
  pub end : trim_end f.value ≡ f.value

pub record Writable (m : Message) : Type 0 where
  pub start : StartFits m.start
  pub few : length m.fields ≤ 32
  pub fields : All FieldFits m.fields
  pub once : once_each true (names_of m.fields) ≡ true
  pub length_agrees : agrees (value_of ContentLength m.fields) (length m.body) ≡ true
  pub fits : length (written m) ≤ 16384
