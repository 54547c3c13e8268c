-- The cases that document 01 marks P ("On the bench"), and five more, as one list. A case says what a definition gives on an input.
use Rattle.std.specs.Prelude.{ℕ, zero, suc, ◌-◌, List, [], ◌∷◌, ◌++◌, Bool, true, false, not, ◌&&◌, eqb, length, take, drop, get_or}
use Rattle.text_json.specs.Read.{Read, found, stuck, read_text}
use Rattle.text_json.specs.Syntax.{Syntax}
use Rattle.text_content.specs.Value.{content}
use Rattle.manifest_forms.specs.Questions.{manifest_number}
use Rattle.reference_aliases.specs.Aliases.{is_alias}
use Rattle.reference.specs.Matches.{matches}
use Rattle.reference.specs.References.{rule, image_id_of}
use Rattle.laws.specs.Order.{same}
use Rattle.text.specs.Question.{text_number}
use Rattle.text.specs.Answer.{form}
use Rattle.store_varint.specs.Varint.{varint, Parsed, number, no_number, read_varint}
use Rattle.store_record.specs.Record.{record_of}
use Rattle.store.specs.Load.{image_of}
use Rattle.policy.specs.Judge.{judge_number, judge_pairs, judge_bytes}
use Rattle.history.specs.Calls.{Call, State, run, numbers}

pub data Case : Type 0 where
  -- the text gets that number
  numbered : List ℕ → ℕ → Case
  -- the text gets 0, and its canonical form is the second list
  becomes : List ℕ → List ℕ → Case
  -- the text gets none of 1 to 6, and as a manifest that number
  manifested : List ℕ → ℕ → Case
  -- the name is an alias
  alias : List ℕ → Case
  -- the name is none
  no_alias : List ℕ → Case
  -- both names are aliases, and they differ in the byte with that number, counting from 1, and in no other
  differ : List ℕ → List ℕ → ℕ → Case
  -- the rule matches an image with that ID and these `self` aliases
  does_match : List ℕ → List ℕ → List (List ℕ) → Case
  -- it matches none such
  no_match : List ℕ → List ℕ → List (List ℕ) → Case
  -- the number has these bytes, and they are read as it
  encoded : ℕ → List ℕ → Case
  -- these bytes begin with no number in shortest form
  not_shortest : List ℕ → Case
  -- the record of an image with that ID and that manifest has so many bytes, and this is the first
  recorded : List ℕ → List ℕ → ℕ → ℕ → Case
  -- these loads in an empty store are all accepted, and judge then reports so many pairs, with these bytes
  judged : List Call → ℕ → List ℕ → Case

-- the number of the manifest that was read
unfoldable pub number_read : Read Syntax → ℕ
number_read (found t r) = manifest_number (content t)
number_read (stuck r) = 3

-- the equality of all bytes but the one with that number
unfoldable pub elsewhere : List ℕ → List ℕ → ℕ → Bool
elsewhere a b n = same (take (n - 1) a) (take (n - 1) b) && same (drop n a) (drop n b)

-- what was read is the number n, and nothing follows it
unfoldable pub is_read : ℕ → Parsed → Bool
is_read n no_number = false
is_read n (number m r) = eqb m n && same r []

unfoldable pub is_none : Parsed → Bool
is_none no_number = true
is_none (number m r) = false

unfoldable pub times : ℕ → List ℕ → List ℕ
times zero c = []
times (suc n) c = c ++ times n c

-- every one of these numbers is 0
unfoldable pub all_zero : List ℕ → Bool
all_zero [] = true
all_zero (n ∷ ns) = eqb n 0 && all_zero ns

-- judge, with a report buffer of as many zeros as the bytes that it has to write
unfoldable pub reports : State → ℕ → List ℕ → Bool
reports s n r =
    eqb (judge_number s.buffer s.used (length r)) 0
    && (eqb (judge_pairs s.buffer s.used (length r)) n && same (judge_bytes s.buffer s.used (times (length r) (0 ∷ []))) r)

-- an empty store in a buffer of 800 bytes
unfoldable pub empty_store : List ℕ
empty_store = times 800 (0 ∷ [])

unfoldable pub holds : Case → Bool
holds (numbered s n) = eqb (text_number s) n
holds (becomes s f) = eqb (text_number s) 0 && same (form s) f
holds (manifested s n) = eqb (text_number s) 0 && eqb (number_read (read_text 8 s)) n
holds (alias c) = is_alias c
holds (no_alias c) = not (is_alias c)
holds (differ a b n) = (is_alias a && is_alias b) && (not (same a b) && elsewhere a b n)
holds (does_match r i names) = matches (rule r) (image_id_of i) names
holds (no_match r i names) = not (matches (rule r) (image_id_of i) names)
holds (encoded n b) = same (varint n) b && is_read n (read_varint b)
holds (not_shortest b) = is_none (read_varint b)
holds (judged cs n r) = all_zero (numbers empty_store cs) && reports (run empty_store cs) n r
holds (recorded i t n b) = eqb (length (record_of (image_of i t))) n && eqb (get_or (record_of (image_of i t)) 0 0) b

unfoldable pub every : List Case → Bool
every [] = true
every (c ∷ cs) = holds c && every cs

-- क and ख, U+0915 and U+0916
abbrev pub ka : List ℕ
ka = 0xE0 ∷ 0xA4 ∷ 0x95 ∷ []

abbrev pub kha : List ℕ
kha = 0xE0 ∷ 0xA4 ∷ 0x96 ∷ []

-- 56 letters a, a digest of sha224
unfoldable pub letters : List ℕ
letters = times 56 (0x61 ∷ [])

-- sha224/, and the Image ID of two such digests
unfoldable pub hash : List ℕ
hash = 0x73 ∷ 0x68 ∷ 0x61 ∷ 0x32 ∷ 0x32 ∷ 0x34 ∷ 0x2F ∷ []  -- sha224/

unfoldable pub some_id : List ℕ
some_id = hash ++ (letters ++ (0x2F ∷ letters))

-- V: {"aconSpecVersion":[1,0]}
unfoldable pub version_only : List ℕ
version_only =
    0x7B ∷ 0x22 ∷ 0x61 ∷ 0x63 ∷ 0x6F ∷ 0x6E ∷ 0x53 ∷ 0x70 ∷ 0x65 ∷ 0x63 ∷ 0x56 ∷ 0x65 ∷ 0x72 ∷ 0x73 ∷ 0x69 ∷ 0x6F ∷ 0x6E ∷ 0x22 ∷ 0x3A ∷ 0x5B ∷ 0x31 ∷ 0x2C ∷
    0x30 ∷ 0x5D ∷ 0x7D ∷ []

-- a manifest with these signals, given as they stand between the brackets
unfoldable pub with_signals : List ℕ → List ℕ
with_signals c =
    (0x7B ∷ 0x22 ∷ 0x61 ∷ 0x63 ∷ 0x6F ∷ 0x6E ∷ 0x53 ∷ 0x70 ∷ 0x65 ∷ 0x63 ∷ 0x56 ∷ 0x65 ∷ 0x72 ∷ 0x73 ∷ 0x69 ∷ 0x6F ∷ 0x6E ∷ 0x22 ∷ 0x3A ∷ 0x5B ∷ 0x31 ∷ 0x2C ∷
    0x30 ∷ 0x5D ∷ 0x2C ∷ 0x22 ∷ 0x73 ∷ 0x69 ∷ 0x67 ∷ 0x6E ∷ 0x61 ∷ 0x6C ∷ 0x73 ∷ 0x22 ∷ 0x3A ∷ 0x5B ∷ [])
    ++ (c ++ (0x5D ∷ 0x7D ∷ []))

-- a manifest with that alias for itself: V without its last byte, and ,"aliases":{"self":{".":["ALIAS"]}}}
unfoldable pub with_alias : List ℕ → List ℕ
with_alias c =
    take 24 version_only
    ++ ((0x2C ∷ 0x22 ∷ 0x61 ∷ 0x6C ∷ 0x69 ∷ 0x61 ∷ 0x73 ∷ 0x65 ∷ 0x73 ∷ 0x22 ∷ 0x3A ∷ 0x7B ∷ 0x22 ∷ 0x73 ∷ 0x65 ∷ 0x6C ∷ 0x66 ∷ 0x22 ∷ 0x3A ∷ 0x7B ∷ 0x22 ∷
    0x2E ∷ 0x22 ∷ 0x3A ∷ 0x5B ∷ 0x22 ∷ [])
    ++ (c ++ (0x22 ∷ 0x5D ∷ 0x7D ∷ 0x7D ∷ 0x7D ∷ [])))

-- the Image ID sha224/, 56 letters a, / and 56 times that letter
unfoldable pub id_with : ℕ → List ℕ
id_with c = hash ++ (letters ++ (0x2F ∷ times 56 (c ∷ [])))

-- a manifest whose one rule is sha224/*/ and 56 times that letter, and which goes on as given after the list of rules:
-- {"aconSpecVersion":[1,0],"policy":{"accepts":["sha224/*/
unfoldable pub accepting : ℕ → List ℕ → List ℕ
accepting c rest =
    (0x7B ∷ 0x22 ∷ 0x61 ∷ 0x63 ∷ 0x6F ∷ 0x6E ∷ 0x53 ∷ 0x70 ∷ 0x65 ∷ 0x63 ∷ 0x56 ∷ 0x65 ∷ 0x72 ∷ 0x73 ∷ 0x69 ∷ 0x6F ∷ 0x6E ∷ 0x22 ∷ 0x3A ∷ 0x5B ∷ 0x31 ∷ 0x2C ∷
    0x30 ∷ 0x5D ∷ 0x2C ∷ 0x22 ∷ 0x70 ∷ 0x6F ∷ 0x6C ∷ 0x69 ∷ 0x63 ∷ 0x79 ∷ 0x22 ∷ 0x3A ∷ 0x7B ∷ 0x22 ∷ 0x61 ∷ 0x63 ∷ 0x63 ∷ 0x65 ∷ 0x70 ∷ 0x74 ∷ 0x73 ∷
    0x22 ∷ 0x3A ∷ 0x5B ∷ 0x22 ∷ 0x73 ∷ 0x68 ∷ 0x61 ∷ 0x32 ∷ 0x32 ∷ 0x34 ∷ 0x2F ∷ 0x2A ∷ 0x2F ∷ [])
    ++ (times 56 (c ∷ []) ++ (0x22 ∷ 0x5D ∷ rest))

-- ,"rejectUnaccepted":true}} and }}
abbrev pub as_guard : List ℕ
as_guard =
    0x2C ∷ 0x22 ∷ 0x72 ∷ 0x65 ∷ 0x6A ∷ 0x65 ∷ 0x63 ∷ 0x74 ∷ 0x55 ∷ 0x6E ∷ 0x61 ∷ 0x63 ∷ 0x63 ∷ 0x65 ∷ 0x70 ∷ 0x74 ∷ 0x65 ∷ 0x64 ∷ 0x22 ∷ 0x3A ∷ 0x74 ∷ 0x72 ∷
    0x75 ∷ 0x65 ∷ 0x7D ∷ 0x7D ∷ []

abbrev pub as_other : List ℕ
as_other = 0x7D ∷ 0x7D ∷ []  -- }}

-- a load of the image named by the first letter, with a rule for the one named by the second
unfoldable pub guard_load : ℕ → ℕ → Call
guard_load a b = record { id = id_with a; manifest = accepting b as_guard }

unfoldable pub other_load : ℕ → ℕ → Call
other_load a b = record { id = id_with a; manifest = accepting b as_other }

unfoldable pub plain_load : ℕ → Call
plain_load a = record { id = id_with a; manifest = version_only }

-- Job:1
abbrev pub job_one : List ℕ
job_one = 0x4A ∷ 0x6F ∷ 0x62 ∷ 0x3A ∷ 0x31 ∷ []  -- Job:1

unfoldable pub cases : List Case
cases =
    -- P1: 127 is 7F; 128 is 80 01; 16,383 is FF 7F; 16,384 is 80 80 01
    encoded 127 (0x7F ∷ [])
    ∷ encoded 128 (0x80 ∷ 0x01 ∷ [])
    ∷ encoded 16383 (0xFF ∷ 0x7F ∷ [])
    ∷ encoded 16384 (0x80 ∷ 0x80 ∷ 0x01 ∷ [])
    -- P2: 80 00 is not shortest
    ∷ not_shortest (0x80 ∷ 0x00 ∷ [])
    -- P3: {"b":1, "a":"\u0041"} becomes {"a":"A","b":1}
    ∷ becomes
    (0x7B ∷ 0x22 ∷ 0x62 ∷ 0x22 ∷ 0x3A ∷ 0x31 ∷ 0x2C ∷ 0x20 ∷ 0x22 ∷ 0x61 ∷ 0x22 ∷ 0x3A ∷ 0x22 ∷ 0x5C ∷ 0x75 ∷ 0x30 ∷ 0x30 ∷ 0x34 ∷ 0x31 ∷ 0x22 ∷ 0x7D ∷ [])
    (0x7B ∷ 0x22 ∷ 0x61 ∷ 0x22 ∷ 0x3A ∷ 0x22 ∷ 0x41 ∷ 0x22 ∷ 0x2C ∷ 0x22 ∷ 0x62 ∷ 0x22 ∷ 0x3A ∷ 0x31 ∷ 0x7D ∷ [])
    -- P4: {"a":1,"\u0061":2} is 6
    ∷ numbered (0x7B ∷ 0x22 ∷ 0x61 ∷ 0x22 ∷ 0x3A ∷ 0x31 ∷ 0x2C ∷ 0x22 ∷ 0x5C ∷ 0x75 ∷ 0x30 ∷ 0x30 ∷ 0x36 ∷ 0x31 ∷ 0x22 ∷ 0x3A ∷ 0x32 ∷ 0x7D ∷ []) 6
    -- P5: -0 is 5; 1e0 is 5; 01 is 3
    ∷ numbered (0x2D ∷ 0x30 ∷ []) 5
    ∷ numbered (0x31 ∷ 0x65 ∷ 0x30 ∷ []) 5
    ∷ numbered (0x30 ∷ 0x31 ∷ []) 3
    -- P6: an alias of 85 क is good (255 bytes); 86 is 8
    ∷ alias (times 85 ka)
    ∷ no_alias (times 86 ka)
    ∷ manifested (with_alias (times 85 ka)) 0
    ∷ manifested (with_alias (times 86 ka)) 8
    -- P7: 21 क then क, and 21 क then ख, are two names; they differ only in byte 66
    ∷ differ (times 21 ka ++ ka) (times 21 ka ++ kha) 66
    -- P8: signals [0,-15] is good; [-15,0] is 7; [-65] is 7
    ∷ manifested (with_signals (0x30 ∷ 0x2C ∷ 0x2D ∷ 0x31 ∷ 0x35 ∷ [])) 0
    ∷ manifested (with_signals (0x2D ∷ 0x31 ∷ 0x35 ∷ 0x2C ∷ 0x30 ∷ [])) 7
    ∷ manifested (with_signals (0x2D ∷ 0x36 ∷ 0x35 ∷ [])) 7
    -- P9: V under sha224 is a record of 83 bytes; its first byte is 52
    ∷ recorded some_id version_only 83 0x52
    -- P10: A, the only guard, accepts B, and B accepts C: A, B, C admitted; A and C alone: one pair. A, B and C are 61, 62 and 63
    ∷ judged (guard_load 0x61 0x62 ∷ other_load 0x62 0x63 ∷ plain_load 0x63 ∷ []) 0 []
    ∷ judged (guard_load 0x61 0x62 ∷ plain_load 0x63 ∷ []) 1 (0 ∷ 1 ∷ [])
    -- P11: guards A, B, C in a ring of single rules: all three admitted; A then B alone: one pair, 1 0
    ∷ judged (guard_load 0x61 0x62 ∷ guard_load 0x62 0x63 ∷ guard_load 0x63 0x61 ∷ []) 0 []
    ∷ judged (guard_load 0x61 0x62 ∷ guard_load 0x62 0x63 ∷ []) 1 (1 ∷ 0 ∷ [])
    -- P12: a rule with the alias Job:1 does not match an image whose only alias is Job:10; one with Job:1 it does
    ∷ no_match (hash ++ (0x2A ∷ 0x2F ∷ job_one)) some_id ((job_one ++ (0x30 ∷ [])) ∷ [])
    ∷ does_match (hash ++ (0x2A ∷ 0x2F ∷ job_one)) some_id (job_one ∷ [])
    -- further ("Text"): the empty text is 3; 16,385 bytes are 1; a byte order mark is 3; nesting 9 is 3, and 8 is not
    ∷ numbered [] 3
    ∷ numbered (times 16385 (0x20 ∷ [])) 1
    ∷ numbered (0xEF ∷ 0xBB ∷ 0xBF ∷ version_only) 3
    ∷ numbered (times 9 (0x5B ∷ []) ++ times 9 (0x5D ∷ [])) 3
    ∷ numbered (times 8 (0x5B ∷ []) ++ times 8 (0x5D ∷ [])) 0
    ∷ []
