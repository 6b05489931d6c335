-- The limits of document 01, each once.
use Rattle.std.specs.Prelude.{◌≡◌, ℕ, ◌+◌, ◌*◌, ◌^◌}
use Rattle.util.specs.Groups.{largest}
use Rattle.util.specs.declared.limits.Limits.{Limits}

-- "All call is device 7F"
abbrev pub all_call : ℕ
all_call = 127

-- "(u14; "all" is 7F 7F)"
abbrev pub all_loops : ℕ
all_loops = 16383

-- "format held to 8..28"
abbrev pub least_format : ℕ
least_format = 8

abbrev pub most_format : ℕ
most_format = 28

-- "120 bytes (u7 each, zero-filled, surplus dropped)"
abbrev pub sample_bytes : ℕ
sample_bytes = 120

-- "one byte held to 7C"
abbrev pub most_maker : ℕ
most_maker = 124

-- LONG: "file name above 1,024"
abbrev pub most_name : ℕ
most_name = 1024

-- LONG: "file data above 111"
abbrev pub most_data : ℕ
most_data = 111

-- "128 tunings"
abbrev pub keys : ℕ
keys = 128

-- the entry of no tuning: entries below it are semitone × 65,536 + fraction
abbrev pub no_tuning : ℕ
no_tuning = 2 ^ 24

-- "URL (first 260 bytes)"
abbrev pub most_url : ℕ
most_url = 260

-- LONG: "note change above 127 entries"
abbrev pub most_changes : ℕ
most_changes = 127

-- "length, name (first 127 bytes)", "number (at most 127, surplus dropped)"
abbrev pub most_counted : ℕ
most_counted = 127

-- STREAM: "more than 65,535 bytes"
abbrev pub most_stream : ℕ
most_stream = 65535

-- the most lent places that the list of a message takes: the tunings of a key dump
abbrev pub most_places : ℕ
most_places = keys

-- the longest frame, of 1,292 bytes: an open with select (0B 03) with the longest URL and the most maps
abbrev pub most_frame : ℕ
most_frame = 16 + most_url + 8 * most_counted

-- the code's limits are these
pub record Stated (l : Limits) : Type 0 where
  pub largest_u7_is : l.largest_u7 ≡ largest 1
  pub largest_u14_is : l.largest_u14 ≡ largest 2
  pub all_call_is : l.all_call ≡ all_call
  pub all_loops_is : l.all_loops ≡ all_loops
  pub least_format_is : l.least_format ≡ least_format
  pub most_format_is : l.most_format ≡ most_format
  pub sample_bytes_is : l.sample_bytes ≡ sample_bytes
  pub most_maker_is : l.most_maker ≡ most_maker
  pub most_name_is : l.most_name ≡ most_name
  pub most_data_is : l.most_data ≡ most_data
  pub keys_is : l.keys ≡ keys
  pub no_tuning_is : l.no_tuning ≡ no_tuning
  pub most_url_is : l.most_url ≡ most_url
  pub most_counted_is : l.most_counted ≡ most_counted
  pub most_stream_is : l.most_stream ≡ most_stream
