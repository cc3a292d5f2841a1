-- What is shown of each function: that it is found by its name, and that it keeps the law.
use Rattle.std.specs.Prelude.{◌≡◌, Some, codes, refl}
use Rattle.vrl_value.specs.declared.value.Tag.TheVariants as tag
use Rattle.fn_codec.specs.Base16.{base16_of, bytes_of_base16}
use Rattle.fn_codec.specs.Base64.{base64_of, bytes_of_base64}
use Rattle.fn_codec.specs.Digests.{md5_of, sha1_of}
use Rattle.fn_codec.specs.Laws.{decode-law, sha2-law}
use Rattle.fn_codec.specs.Percent.{percent_of, text_of_percent}
use Rattle.fn_list.specs.AppendLaw.{append-law}
use Rattle.fn_list.specs.ChunksLaw.{chunks-law}
use Rattle.fn_list.specs.CompactLaw.{compact-law}
use Rattle.fn_list.specs.FlattenLaw.{flatten-law}
use Rattle.fn_list.specs.Includes.{includes-law}
use Rattle.fn_list.specs.PushLaw.{push-law}
use Rattle.fn_list.specs.UniqueLaw.{unique-law}
use Rattle.fn_list.specs.ZipLaw.{zip-law}
use Rattle.fn_number.specs.Laws.{abs-law, format_int-law, mod-law, parse_int-law}
use Rattle.fn_object.specs.GetLaw.{get-law}
use Rattle.fn_object.specs.KeysLaw.{keys-law}
use Rattle.fn_object.specs.MergeLaw.{merge-law}
use Rattle.fn_object.specs.ObjectFromArrayLaw.{object_from_array-law}
use Rattle.fn_object.specs.RemoveLaw.{remove-law}
use Rattle.fn_object.specs.SetLaw.{set-law}
use Rattle.fn_object.specs.TallyLaw.{tally-law}
use Rattle.fn_object.specs.UnflattenLaw.{unflatten-law}
use Rattle.fn_object.specs.ValuesLaw.{values-law}
use Rattle.fn_parse.specs.CsvLaw.{parse_csv-law}
use Rattle.fn_parse.specs.JsonLaw.{encode_json-law, parse_json-law}
use Rattle.fn_parse.specs.KeyValueLaw.{encode_key_value-law, parse_key_value-law}
use Rattle.fn_parse.specs.QueryStringLaw.{parse_query_string-law}
use Rattle.fn_parse.specs.UrlLaw.{parse_url-law}
use Rattle.fn_search.specs.Laws.{find-law, match-law, replace-law, split-law}
use Rattle.fn_search.specs.MatchAnyLaw.{match_any-law}
use Rattle.fn_search.specs.ParseRegexLaw.{parse_regex-law, parse_regex_all-law}
use Rattle.fn_string.specs.Case.{in_lower_case, in_upper_case}
use Rattle.fn_string.specs.JoinLaw.{join-law}
use Rattle.fn_string.specs.Laws.{length-law, search-law, strlen-law, truncate-law}
use Rattle.fn_string.specs.Search.{contains, ends_with, starts_with}
use Rattle.fn_string.specs.SliceLaw.{slice-law}
use Rattle.fn_string.specs.StripWhitespace.{stripped}
use Rattle.fn_time.specs.Laws.{format_timestamp-law, from_unix_timestamp-law, now-law, parse_timestamp-law, to_unix_timestamp-law}
use Rattle.fn_type.specs.Laws.{is-law, is_empty-law, is_nullish-law, only-law, to_bool-law, to_int-law, to_string-law}
use Rattle.vrl_builtin.specs.Law.{KeepsLaw}
use Rattle.vrl_builtin.specs.OfText.{of_text-law}
use Rattle.vrl_builtin.specs.OneTag.{whole_row, KeepsOneTag, OneTagRow}
use Rattle.vrl_builtin.specs.OneTagLaw.{one_tag-law}
use Rattle.vrl_table.specs.Table.{function_named, row_of, FunctionsKeepLaw}
use Rattle.vrl_table.specs.declared.function.Fun.{Fun}
use Rattle.vrl_table.specs.declared.function.Fun.TheVariants as fun

pub record IsEntry (function : Fun) : Type 0 where
  pub found : function_named (row_of function).name ≡ Some function
  pub law : KeepsLaw (row_of function)

entry : (function : Fun) → function_named (row_of function).name ≡ Some function → KeepsLaw (row_of function)
    → IsEntry function
entry function found law = record { found = found; law = law }

-- that of a function whose results have one tag
one_tag : {r : OneTagRow} → KeepsOneTag r → KeepsLaw (whole_row r)
one_tag {r} keeps = one_tag-law r keeps

pub is_entry : (function : Fun) → IsEntry function
unfolding function_named row_of
is_entry fun.Abs = entry _ refl (one_tag abs-law)
is_entry fun.Append = entry _ refl append-law
is_entry fun.Array = entry _ refl (only-law (codes "array") tag.List)
is_entry fun.Bool = entry _ refl (only-law (codes "bool") tag.Bool)
is_entry fun.Chunks = entry _ refl chunks-law
is_entry fun.Compact = entry _ refl compact-law
is_entry fun.Contains = entry _ refl (one_tag (search-law (codes "contains") contains))
is_entry fun.DecodeBase16 =
    entry _ refl (one_tag (decode-law (codes "decode_base16") (codes "not base16") bytes_of_base16))
is_entry fun.DecodeBase64 =
    entry _ refl (one_tag (decode-law (codes "decode_base64") (codes "not base64") bytes_of_base64))
is_entry fun.DecodePercent = entry _ refl (one_tag (of_text-law (codes "decode_percent") text_of_percent))
is_entry fun.Downcase = entry _ refl (one_tag (of_text-law (codes "downcase") in_lower_case))
is_entry fun.EncodeBase16 = entry _ refl (one_tag (of_text-law (codes "encode_base16") base16_of))
is_entry fun.EncodeBase64 = entry _ refl (one_tag (of_text-law (codes "encode_base64") base64_of))
is_entry fun.EncodeJson = entry _ refl (one_tag encode_json-law)
is_entry fun.EncodeKeyValue = entry _ refl (one_tag encode_key_value-law)
is_entry fun.EncodePercent = entry _ refl (one_tag (of_text-law (codes "encode_percent") percent_of))
is_entry fun.EndsWith = entry _ refl (one_tag (search-law (codes "ends_with") ends_with))
is_entry fun.Find = entry _ refl find-law
is_entry fun.Flatten = entry _ refl flatten-law
is_entry fun.FormatInt = entry _ refl (one_tag format_int-law)
is_entry fun.FormatTimestamp = entry _ refl format_timestamp-law
is_entry fun.FromUnixTimestamp = entry _ refl from_unix_timestamp-law
is_entry fun.Get = entry _ refl get-law
is_entry fun.Includes = entry _ refl (one_tag includes-law)
is_entry fun.Int = entry _ refl (only-law (codes "int") tag.Int)
is_entry fun.IsArray = entry _ refl (one_tag (is-law (codes "is_array") tag.List))
is_entry fun.IsBoolean = entry _ refl (one_tag (is-law (codes "is_boolean") tag.Bool))
is_entry fun.IsEmpty = entry _ refl (one_tag is_empty-law)
is_entry fun.IsInteger = entry _ refl (one_tag (is-law (codes "is_integer") tag.Int))
is_entry fun.IsNull = entry _ refl (one_tag (is-law (codes "is_null") tag.Null))
is_entry fun.IsNullish = entry _ refl (one_tag is_nullish-law)
is_entry fun.IsObject = entry _ refl (one_tag (is-law (codes "is_object") tag.Object))
is_entry fun.IsRegex = entry _ refl (one_tag (is-law (codes "is_regex") tag.Pattern))
is_entry fun.IsString = entry _ refl (one_tag (is-law (codes "is_string") tag.Text))
is_entry fun.IsTimestamp = entry _ refl (one_tag (is-law (codes "is_timestamp") tag.Time))
is_entry fun.Join = entry _ refl (one_tag join-law)
is_entry fun.Keys = entry _ refl keys-law
is_entry fun.Length = entry _ refl (one_tag length-law)
is_entry fun.Match = entry _ refl (one_tag match-law)
is_entry fun.MatchAny = entry _ refl (one_tag match_any-law)
is_entry fun.Md5 = entry _ refl (one_tag (of_text-law (codes "md5") md5_of))
is_entry fun.Merge = entry _ refl merge-law
is_entry fun.Mod = entry _ refl (one_tag mod-law)
is_entry fun.Now = entry _ refl (one_tag now-law)
is_entry fun.Object = entry _ refl (only-law (codes "object") tag.Object)
is_entry fun.ObjectFromArray = entry _ refl object_from_array-law
is_entry fun.ParseCsv = entry _ refl parse_csv-law
is_entry fun.ParseInt = entry _ refl (one_tag parse_int-law)
is_entry fun.ParseJson = entry _ refl parse_json-law
is_entry fun.ParseKeyValue = entry _ refl parse_key_value-law
is_entry fun.ParseQueryString = entry _ refl parse_query_string-law
is_entry fun.ParseRegex = entry _ refl parse_regex-law
is_entry fun.ParseRegexAll = entry _ refl parse_regex_all-law
is_entry fun.ParseTimestamp = entry _ refl parse_timestamp-law
is_entry fun.ParseUrl = entry _ refl parse_url-law
is_entry fun.Push = entry _ refl push-law
is_entry fun.Remove = entry _ refl remove-law
is_entry fun.Replace = entry _ refl (one_tag replace-law)
is_entry fun.Set = entry _ refl set-law
is_entry fun.Sha1 = entry _ refl (one_tag (of_text-law (codes "sha1") sha1_of))
is_entry fun.Sha2 = entry _ refl sha2-law
is_entry fun.Slice = entry _ refl slice-law
is_entry fun.Split = entry _ refl split-law
is_entry fun.StartsWith = entry _ refl (one_tag (search-law (codes "starts_with") starts_with))
is_entry fun.StrLen = entry _ refl (one_tag strlen-law)
is_entry fun.StringValue = entry _ refl (only-law (codes "string") tag.Text)
is_entry fun.StripWhitespace = entry _ refl (one_tag (of_text-law (codes "strip_whitespace") stripped))
is_entry fun.Tally = entry _ refl tally-law
is_entry fun.Timestamp = entry _ refl (only-law (codes "timestamp") tag.Time)
is_entry fun.ToBool = entry _ refl (one_tag to_bool-law)
is_entry fun.ToInt = entry _ refl (one_tag to_int-law)
is_entry fun.ToString = entry _ refl (one_tag to_string-law)
is_entry fun.ToUnixTimestamp = entry _ refl to_unix_timestamp-law
is_entry fun.Truncate = entry _ refl (one_tag truncate-law)
is_entry fun.Unflatten = entry _ refl unflatten-law
is_entry fun.Unique = entry _ refl unique-law
is_entry fun.Upcase = entry _ refl (one_tag (of_text-law (codes "upcase") in_upper_case))
is_entry fun.Values = entry _ refl values-law
is_entry fun.Zip = entry _ refl zip-law

pub row-law : FunctionsKeepLaw
row-law function = (is_entry function).law
