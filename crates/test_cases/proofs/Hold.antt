-- Every case holds, by computing.
use mathlib.Core.Path.{◌≡◌, refl}
use mathlib.Core.Bool.{true}
use Rattle.laws.specs.Order.{same, leq}
use Rattle.text_utf8.specs.Utf8.{within, table, lead_in, lead, utf8_from, utf8}
use Rattle.text_utf8.specs.Scalar.{encode}
use Rattle.text_json.specs.Bytes.{between, is_space, is_digit, is_exp, is_sign, is_hex, hex_value, is_unescaped, is_short, short_value}
use Rattle.text_json.specs.Syntax.{elements, members}
use Rattle.text_json.specs.Read.{and_then, spaces, read_word, digits_of, after_digits, read_some_digits, read_int, read_frac, read_signed, read_exp, read_unsigned}
use Rattle.text_json.specs.Read.{read_number, prepend, read_chars, read_string, read_scalar, after_item, read_items, read_first, read_listed, read_pair, read_nested}
use Rattle.text_json.specs.Read.{read, at_end, read_text}
use Rattle.text_json.specs.Content.{is_high, is_low, is_surrogate, is_pair, pair_value, unescape, lone, is_control, any_control, refused_string, escaped, quoted}
use Rattle.text_json.specs.Content.{decimal_from, decimal, limit, refused_number, signed}
use Rattle.text_content.specs.Value.{content}
use Rattle.text_content.specs.Canonical.{insert_field, sorted, comma, write, canonical}
use Rattle.text_content.specs.Fault.{mark, string_fault, number_fault, among, repeated, key_fault}
use Rattle.text.specs.Question.{is_too_long, not_utf8, is_stuck, not_json, faulty, bad_string, bad_number, same_keys, questions, lowest, text_number}
use Rattle.text.specs.Answer.{form_of, form, by_faults, by_tree, by_verdict, checked, canonical_number, canonical_length, canonical_bytes, is_canonical}
use Rattle.text.specs.Answer.{is_form as is_own_form}
use Rattle.text_chars.specs.Measure.{every as every_byte}
use Rattle.reference_parts.specs.Parts.{is_divided, longer, parts}
use Rattle.reference_parts.specs.Hex.{is_lower_hex}
use Rattle.reference_digests.specs.Algorithms.{named, numbered}
use Rattle.reference_digests.specs.Digests.{is_digest, digest_of}
use Rattle.reference_aliases.specs.Aliases.{is_reserved, is_digest_length, is_name_length, is_alias}
use Rattle.reference.specs.References.{is_signer, signer_of, is_manifest, manifest_of, rule_under, rule_of, rule, id_under, id_of, image_id_of, digest_layer, alias_layer}
use Rattle.reference.specs.References.{layer_of, layer}
use Rattle.reference.specs.Matches.{is_one_of, signer_matches, manifest_matches, matches}
use Rattle.manifest_entries.specs.Entries.{is_empty, begins_with, is_layer, is_rule, text_passes, number_passes, is_form, passes, all_pass, count}
use Rattle.manifest_fields.specs.Fields.{first_named, field_named}
use Rattle.manifest_fields.specs.Members.{find}
use Rattle.manifest_values.specs.Values.{is_array_of, is_some, entries, is_boolean, is_count, is_path, is_number, is_version, is_among, repeats, all_different}
use Rattle.manifest_fields.specs.FieldTests.{members_of, is_object, count_fields, every_member, is_object_of, names_pass, group_passes, policy_passes, field_passes}
use Rattle.manifest_fields.specs.FieldTests.{member_passes, is_found, found_entries, found_members, all_required, well_fielded}
use Rattle.manifest_fields.specs.Accessors.{field_of, accepts_field, rejects_field, contents_field, self_field, layers_of, accepts_of, contents_of, self_of, text_of}
use Rattle.manifest_fields.specs.Accessors.{texts, names_of, entrypoint_of, env_of, signals_of, is_true, rejects_of, writable_of, no_restart_of, instances_of}
use Rattle.manifest_fields.specs.Accessors.{max_instances_of, number_of, numbers}
use Rattle.manifest_repeat.specs.Repeated.{repeated as repeated_name, repeated_alias}
use Rattle.manifest_fields.specs.Forms.{contents_form, self_form}
use Rattle.manifest_forms.specs.Questions.{bad_field, bad_form, manifest_number}
use Rattle.store_varint.specs.Varint.{groups, varint, grouped, read_varint}
use Rattle.store_record.specs.Record.{id_bytes, ids_bytes, body_of, record_of, head_of, head_size, body_under, read_body, before_rest, read_sized, read_record}
use Rattle.laws.specs.Any.{any_of, any_pair}
use Rattle.manifest.specs.Number.{asked, questions as manifest_questions, manifest_text_number}
use Rattle.manifest.specs.Manifest.{content_of, manifest_of as good_content, rejects, rules, self_names, aliases_to, aliases_of, contents, layers, env, signals}
use Rattle.manifest.specs.Manifest.{max_instances, no_restart, writable_fs, has_entrypoint, accepts, aliased_object}
use Rattle.manifest.specs.Names.{differ, conflict, keys_of, objects}
use Rattle.store_record.specs.Ids.{same_id, has_id, share_id, id_twice}
use Rattle.store_record.specs.Store.{store_of, and_then as and_then_image, continued, read_records}
use Rattle.store_keys.specs.Keys.{keys_under, layer_keys_under, image_keys_of, layer_keys_of, image_keys, layer_keys}
use Rattle.store_keys.specs.Clash.{is_same_key, disagree, clash, any_clash}
use Rattle.store_open.specs.Held.{held, among as among_held, is_unfit, too_many, are_unsound, is_broken, well_formed}
use Rattle.store.specs.Load.{image_of, is_no_id, no_space, store_questions, image_questions, load_questions, load_number, used_after, bytes_after, load_used, load_bytes}
use Rattle.store_append.specs.Append.{appended}
use Rattle.policy_marks.specs.Marks.{mark as table_mark, or_row, through, closed_at, closed_below, closed}
use Rattle.policy_marks.specs.Pairs.{pairs_with, pairs_from, pairs_where, is_reported, pairs_in, pairs_of, report_of, no_report_space, pairs_after, report_after}
use Rattle.policy_rows.specs.Accepting.{accepts_image, is_guard, guards, marks}
use Rattle.policy.specs.Pairs.{pairs}
use Rattle.policy.specs.Judge.{judge_questions, judge_number, held_pairs, judge_pairs, judge_bytes}
use Rattle.history.specs.Calls.{call_number, after, run_from, numbers_from, accepted_from, start, run, numbers as call_numbers, accepted}
use Rattle.test_cases.specs.Cases.{holds, every, number_read, elsewhere, is_read, is_none, times, letters, hash, some_id, version_only, with_signals, with_alias}
use Rattle.test_cases.specs.Cases.{all_zero}
use Rattle.test_cases.specs.Cases.{reports, empty_store, id_with, accepting, guard_load, other_load, plain_load, cases}

-- Every case holds.
pub all_hold : every cases ≡ true
unfolding same leq within table lead_in lead utf8_from utf8 encode between is_space is_digit is_exp is_sign is_hex hex_value is_unescaped is_short short_value
    elements members and_then spaces read_word digits_of after_digits read_some_digits read_int read_frac read_signed read_exp read_unsigned read_number
    prepend read_chars read_string read_scalar after_item read_items read_first read_listed read_pair read_nested read at_end read_text is_high is_low is_surrogate
    is_pair pair_value unescape lone is_control any_control refused_string escaped quoted decimal_from decimal limit refused_number signed content
    insert_field sorted comma write canonical mark string_fault number_fault among repeated key_fault is_too_long not_utf8 is_stuck not_json faulty bad_string
    bad_number same_keys questions lowest text_number form_of form every_byte named is_divided longer parts is_lower_hex is_digest digest_of is_reserved
    is_digest_length is_name_length is_alias is_signer signer_of is_manifest manifest_of rule_under rule_of rule id_under id_of image_id_of is_one_of signer_matches
    manifest_matches matches is_empty begins_with is_layer is_rule text_passes number_passes is_form passes all_pass count first_named field_named find is_array_of
    is_some entries members_of is_object is_boolean is_count is_path is_number is_version is_among repeats all_different count_fields every_member is_object_of
    names_pass group_passes policy_passes field_passes member_passes is_found found_entries found_members all_required well_fielded field_of accepts_field
    rejects_field contents_field self_field layers_of accepts_of contents_of self_of text_of texts names_of bad_field contents_form self_form bad_form repeated_name
    repeated_alias manifest_number digest_layer alias_layer layer_of layer groups varint grouped read_varint id_bytes ids_bytes body_of record_of numbered holds
    every number_read elsewhere is_read is_none times letters hash some_id version_only with_signals with_alias all_zero reports empty_store id_with accepting
    guard_load other_load plain_load any_of any_pair by_faults by_tree by_verdict checked canonical_number canonical_length canonical_bytes is_canonical is_own_form
    entrypoint_of env_of signals_of is_true rejects_of writable_of no_restart_of instances_of max_instances_of number_of numbers asked manifest_questions
    manifest_text_number content_of good_content rejects rules self_names aliases_to aliases_of contents layers env signals max_instances no_restart writable_fs
    has_entrypoint accepts aliased_object differ conflict keys_of objects same_id has_id share_id id_twice head_of head_size body_under read_body before_rest read_sized
    read_record store_of and_then_image continued read_records keys_under layer_keys_under image_keys_of layer_keys_of image_keys layer_keys is_same_key disagree clash
    any_clash held is_unfit too_many are_unsound is_broken well_formed image_of is_no_id among_held no_space store_questions image_questions load_questions
    load_number appended used_after bytes_after load_used load_bytes table_mark or_row through closed_at closed_below closed pairs_with pairs_from pairs_where
    is_reported pairs_in pairs_of report_of no_report_space pairs_after report_after accepts_image is_guard guards marks pairs judge_questions judge_number
    held_pairs judge_pairs judge_bytes call_number after run_from numbers_from accepted_from start run call_numbers accepted cases
all_hold = refl
