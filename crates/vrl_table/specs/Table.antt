-- The functions of the language and their rows.
use Rattle.std.specs.Prelude.{◌≡◌, ℕ, Bool, true, false, not, is_none, List, [], ◌∷◌, length, map, Option, Some, None, find, bytes_eq, codes}
use Rattle.vrl_value.specs.Tree.{Tree}
use Rattle.vrl_value.specs.declared.value.Tag.TheVariants as tag
use Rattle.vrl_syntax.specs.Calls.{form_named}
use Rattle.vrl_builtin.specs.Law.{KeepsLaw}
use Rattle.vrl_builtin.specs.OfText.{of_text_row}
use Rattle.vrl_builtin.specs.OneTag.{whole_row}
use Rattle.vrl_builtin.specs.Rows.{GivenTree, ParameterRow, Row, boolean_at, items_at, text_at, value_at}
use Rattle.vrl_builtin.specs.TagSets.{regexes}
use Rattle.vrl_builtin.specs.Words.{first_other}
use Rattle.fn_codec.specs.Base16.{base16_of, bytes_of_base16}
use Rattle.fn_codec.specs.Base64.{base64_of, bytes_of_base64}
use Rattle.fn_codec.specs.Decode.{decode_row}
use Rattle.fn_codec.specs.Digests.{md5_of, sha1_of}
use Rattle.fn_codec.specs.Percent.{percent_of, text_of_percent}
use Rattle.fn_codec.specs.Sha2.{sha2_row}
use Rattle.fn_list.specs.Append.{append_row}
use Rattle.fn_list.specs.Chunks.{chunks_row}
use Rattle.fn_list.specs.Compact.{compact_row}
use Rattle.fn_list.specs.Flatten.{flatten_row}
use Rattle.fn_list.specs.Includes.{includes_row}
use Rattle.fn_list.specs.Push.{push_row}
use Rattle.fn_list.specs.Unique.{unique_row}
use Rattle.fn_list.specs.Zip.{zip_row}
use Rattle.fn_number.specs.Abs.{abs_row}
use Rattle.fn_number.specs.FormatInt.{format_int_row}
use Rattle.fn_number.specs.Mod.{mod_row}
use Rattle.fn_number.specs.ParseInt.{parse_int_row}
use Rattle.fn_object.specs.Get.{get_row, no_fault}
use Rattle.fn_object.specs.Keys.{keys_row}
use Rattle.fn_object.specs.Merge.{merge_row}
use Rattle.fn_object.specs.ObjectFromArray.{object_from_array_row}
use Rattle.fn_object.specs.Paths.{is_taken, removal_fault, write_fault}
use Rattle.fn_object.specs.Remove.{remove_row}
use Rattle.fn_object.specs.Set.{set_row}
use Rattle.fn_object.specs.Tally.{tally_row}
use Rattle.fn_object.specs.Unflatten.{unflatten_row}
use Rattle.fn_object.specs.Values.{values_row}
use Rattle.fn_parse.specs.Csv.{parse_csv_row}
use Rattle.fn_parse.specs.EncodeKeyValue.{encode_key_value_row}
use Rattle.fn_parse.specs.Json.{encode_json_row, parse_json_row}
use Rattle.fn_parse.specs.ParseKeyValue.{has_delimiters, parse_key_value_row}
use Rattle.fn_parse.specs.QueryString.{parse_query_string_row}
use Rattle.fn_parse.specs.Url.{parse_url_row}
use Rattle.fn_search.specs.Find.{find_row, is_regex}
use Rattle.fn_search.specs.Match.{match_row}
use Rattle.fn_search.specs.MatchAny.{match_any_row}
use Rattle.fn_search.specs.ParseRegex.{parse_regex_row, parse_regex_all_row}
use Rattle.fn_search.specs.Replace.{replace_row}
use Rattle.fn_search.specs.Split.{split_row}
use Rattle.fn_string.specs.Case.{in_lower_case, in_upper_case}
use Rattle.fn_string.specs.Join.{join_row}
use Rattle.fn_string.specs.Length.{length_row}
use Rattle.fn_string.specs.Search.{contains, ends_with, search_row, starts_with}
use Rattle.fn_string.specs.Slice.{slice_row}
use Rattle.fn_string.specs.StrLen.{strlen_row}
use Rattle.fn_string.specs.StripWhitespace.{stripped}
use Rattle.fn_string.specs.Truncate.{truncate_row}
use Rattle.fn_time.specs.FormatTimestamp.{format_timestamp_row}
use Rattle.fn_time.specs.FromUnixTimestamp.{from_unix_timestamp_row}
use Rattle.fn_time.specs.Now.{now_row}
use Rattle.fn_time.specs.ParseTimestamp.{parse_timestamp_row}
use Rattle.fn_time.specs.ToUnixTimestamp.{to_unix_timestamp_row}
use Rattle.fn_type.specs.Is.{is_row}
use Rattle.fn_type.specs.IsEmpty.{is_empty_row}
use Rattle.fn_type.specs.IsNullish.{is_nullish_row}
use Rattle.fn_type.specs.Only.{only_row}
use Rattle.fn_type.specs.ToBool.{to_bool_row}
use Rattle.fn_type.specs.ToInt.{to_int_row}
use Rattle.fn_type.specs.ToString.{to_string_row}
use Rattle.vrl_binding.specs.Binding.{has_twice}
use Rattle.vrl_table.specs.declared.function.Fun.{Fun}
use Rattle.vrl_table.specs.declared.function.Fun.TheVariants as fun

unfoldable pub row_of : Fun → Row
row_of fun.Abs = whole_row abs_row
row_of fun.Append = append_row
row_of fun.Array = only_row (codes "array") tag.List
row_of fun.Bool = only_row (codes "bool") tag.Bool
row_of fun.Chunks = chunks_row
row_of fun.Compact = compact_row
row_of fun.Contains = whole_row (search_row (codes "contains") contains)
row_of fun.DecodeBase16 = whole_row (decode_row (codes "decode_base16") (codes "not base16") bytes_of_base16)
row_of fun.DecodeBase64 = whole_row (decode_row (codes "decode_base64") (codes "not base64") bytes_of_base64)
row_of fun.DecodePercent = whole_row (of_text_row (codes "decode_percent") text_of_percent)
row_of fun.Downcase = whole_row (of_text_row (codes "downcase") in_lower_case)
row_of fun.EncodeBase16 = whole_row (of_text_row (codes "encode_base16") base16_of)
row_of fun.EncodeBase64 = whole_row (of_text_row (codes "encode_base64") base64_of)
row_of fun.EncodeJson = whole_row encode_json_row
row_of fun.EncodeKeyValue = whole_row encode_key_value_row
row_of fun.EncodePercent = whole_row (of_text_row (codes "encode_percent") percent_of)
row_of fun.EndsWith = whole_row (search_row (codes "ends_with") ends_with)
row_of fun.Find = find_row
row_of fun.Flatten = flatten_row
row_of fun.FormatInt = whole_row format_int_row
row_of fun.FormatTimestamp = format_timestamp_row
row_of fun.FromUnixTimestamp = from_unix_timestamp_row
row_of fun.Get = get_row
row_of fun.Includes = whole_row includes_row
row_of fun.Int = only_row (codes "int") tag.Int
row_of fun.IsArray = whole_row (is_row (codes "is_array") tag.List)
row_of fun.IsBoolean = whole_row (is_row (codes "is_boolean") tag.Bool)
row_of fun.IsEmpty = whole_row is_empty_row
row_of fun.IsInteger = whole_row (is_row (codes "is_integer") tag.Int)
row_of fun.IsNull = whole_row (is_row (codes "is_null") tag.Null)
row_of fun.IsNullish = whole_row is_nullish_row
row_of fun.IsObject = whole_row (is_row (codes "is_object") tag.Object)
row_of fun.IsRegex = whole_row (is_row (codes "is_regex") tag.Pattern)
row_of fun.IsString = whole_row (is_row (codes "is_string") tag.Text)
row_of fun.IsTimestamp = whole_row (is_row (codes "is_timestamp") tag.Time)
row_of fun.Join = whole_row join_row
row_of fun.Keys = keys_row
row_of fun.Length = whole_row length_row
row_of fun.Match = whole_row match_row
row_of fun.MatchAny = whole_row match_any_row
row_of fun.Md5 = whole_row (of_text_row (codes "md5") md5_of)
row_of fun.Merge = merge_row
row_of fun.Mod = whole_row mod_row
row_of fun.Now = whole_row now_row
row_of fun.Object = only_row (codes "object") tag.Object
row_of fun.ObjectFromArray = object_from_array_row
row_of fun.ParseCsv = parse_csv_row
row_of fun.ParseInt = whole_row parse_int_row
row_of fun.ParseJson = parse_json_row
row_of fun.ParseKeyValue = parse_key_value_row
row_of fun.ParseQueryString = parse_query_string_row
row_of fun.ParseRegex = parse_regex_row
row_of fun.ParseRegexAll = parse_regex_all_row
row_of fun.ParseTimestamp = parse_timestamp_row
row_of fun.ParseUrl = parse_url_row
row_of fun.Push = push_row
row_of fun.Remove = remove_row
row_of fun.Replace = whole_row replace_row
row_of fun.Set = set_row
row_of fun.Sha1 = whole_row (of_text_row (codes "sha1") sha1_of)
row_of fun.Sha2 = sha2_row
row_of fun.Slice = slice_row
row_of fun.Split = split_row
row_of fun.StartsWith = whole_row (search_row (codes "starts_with") starts_with)
row_of fun.StrLen = whole_row strlen_row
row_of fun.StringValue = only_row (codes "string") tag.Text
row_of fun.StripWhitespace = whole_row (of_text_row (codes "strip_whitespace") stripped)
row_of fun.Tally = tally_row
row_of fun.Timestamp = only_row (codes "timestamp") tag.Time
row_of fun.ToBool = whole_row to_bool_row
row_of fun.ToInt = whole_row to_int_row
row_of fun.ToString = whole_row to_string_row
row_of fun.ToUnixTimestamp = to_unix_timestamp_row
row_of fun.Truncate = whole_row truncate_row
row_of fun.Unflatten = unflatten_row
row_of fun.Unique = unique_row
row_of fun.Upcase = whole_row (of_text_row (codes "upcase") in_upper_case)
row_of fun.Values = values_row
row_of fun.Zip = zip_row

-- whether a call with such arguments uses memory beside that for what it answers
unfoldable pub uses_memory : Fun → List (Option Tree) → Bool
uses_memory fun.Compact arguments = true
uses_memory fun.Contains arguments = not (boolean_at 2 true arguments)
uses_memory fun.DecodeBase16 arguments = true
uses_memory fun.DecodeBase64 arguments = true
uses_memory fun.Find arguments = is_regex (value_at 1 arguments)
uses_memory fun.Flatten arguments = true
uses_memory fun.Get arguments = is_taken no_fault (value_at 1 arguments)
uses_memory fun.Match arguments = true
uses_memory fun.MatchAny arguments = is_none (first_other regexes (items_at 1 arguments))
uses_memory fun.Merge arguments = true
uses_memory fun.ParseJson arguments = true
uses_memory fun.ParseKeyValue arguments =
    has_delimiters (text_at 1 (codes "=") arguments) (text_at 2 (codes " ") arguments)
uses_memory fun.ParseRegex arguments = true
uses_memory fun.ParseRegexAll arguments = true
uses_memory fun.ParseUrl arguments = true
uses_memory fun.Remove arguments = is_taken removal_fault (value_at 1 arguments)
uses_memory fun.Set arguments = is_taken write_fault (value_at 1 arguments)
uses_memory fun.Unflatten arguments = true
uses_memory function arguments = false

-- all of them
abbrev pub all_functions : List Fun
all_functions = fun.Abs ∷ fun.Append ∷ fun.Array ∷ fun.Bool ∷ fun.Chunks ∷ fun.Compact ∷ fun.Contains
    ∷ fun.DecodeBase16 ∷ fun.DecodeBase64 ∷ fun.DecodePercent ∷ fun.Downcase ∷ fun.EncodeBase16 ∷ fun.EncodeBase64
    ∷ fun.EncodeJson ∷ fun.EncodeKeyValue ∷ fun.EncodePercent ∷ fun.EndsWith ∷ fun.Find ∷ fun.Flatten ∷ fun.FormatInt
    ∷ fun.FormatTimestamp ∷ fun.FromUnixTimestamp ∷ fun.Get ∷ fun.Includes ∷ fun.Int ∷ fun.IsArray ∷ fun.IsBoolean
    ∷ fun.IsEmpty ∷ fun.IsInteger ∷ fun.IsNull ∷ fun.IsNullish ∷ fun.IsObject ∷ fun.IsRegex ∷ fun.IsString
    ∷ fun.IsTimestamp ∷ fun.Join ∷ fun.Keys ∷ fun.Length ∷ fun.Match ∷ fun.MatchAny ∷ fun.Md5 ∷ fun.Merge ∷ fun.Mod
    ∷ fun.Now ∷ fun.Object ∷ fun.ObjectFromArray ∷ fun.ParseCsv ∷ fun.ParseInt ∷ fun.ParseJson ∷ fun.ParseKeyValue
    ∷ fun.ParseQueryString ∷ fun.ParseRegex ∷ fun.ParseRegexAll ∷ fun.ParseTimestamp ∷ fun.ParseUrl ∷ fun.Push
    ∷ fun.Remove ∷ fun.Replace ∷ fun.Set ∷ fun.Sha1 ∷ fun.Sha2 ∷ fun.Slice ∷ fun.Split ∷ fun.StartsWith ∷ fun.StrLen
    ∷ fun.StringValue ∷ fun.StripWhitespace ∷ fun.Tally ∷ fun.Timestamp ∷ fun.ToBool ∷ fun.ToInt ∷ fun.ToString
    ∷ fun.ToUnixTimestamp ∷ fun.Truncate ∷ fun.Unflatten ∷ fun.Unique ∷ fun.Upcase ∷ fun.Values ∷ fun.Zip ∷ []

-- the function of a name, if one has it
unfoldable pub function_named : List ℕ → Option Fun
function_named name = find (λ function. bytes_eq (row_of function).name name) all_functions

-- each function is the one that is found by its name, so no two have one name
abbrev pub FunctionsAreFound : Type 0
FunctionsAreFound = (function : Fun) → function_named (row_of function).name ≡ Some function

-- there are 79, and no two have one name
pub record FunctionsAreCounted : Type 0 where
  pub number : length all_functions ≡ 79
  pub once : has_twice (map (λ function. Some (row_of function).name) all_functions) ≡ false

-- no function has the name of a form
abbrev pub FormsAreNoFunctions : Type 0
FormsAreNoFunctions = (function : Fun) → form_named (row_of function).name ≡ None

-- two of these parameters have one name
abbrev pub has_name_twice : List ParameterRow → Bool
has_name_twice ps = has_twice (map (λ p. Some p.name) ps)

-- no function has two parameters of one name
abbrev pub ParametersAreToldApart : Type 0
ParametersAreToldApart = (function : Fun) → has_name_twice (row_of function).parameters ≡ false

-- what a function gives is never absent, whatever is given for its parameters
abbrev pub ResultsArePresent : Type 0
ResultsArePresent = (function : Fun) (givens : List GivenTree) (sources : List (List ℕ))
    → (row_of function).kind givens sources [] tag.Absent ≡ false

-- each function keeps the law
abbrev pub FunctionsKeepLaw : Type 0
FunctionsKeepLaw = (function : Fun) → KeepsLaw (row_of function)
