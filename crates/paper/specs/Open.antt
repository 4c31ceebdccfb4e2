-- Bundles: to unfold one is to unfold all that its line names. For proofs that compute. (Made by scripts/tables.py.)
use Rattle.paper.specs.Bytes as Bytes'
use Rattle.paper.specs.Words as Words'
use Rattle.paper.specs.Tokens as Tokens'
use Rattle.paper.specs.Constants as Constants'
use Rattle.paper.specs.Names as Names'
use Rattle.paper.specs.Items as Items'
use Rattle.paper.specs.Machine as Machine'
use Rattle.paper.specs.Grammar as Grammar'
use Rattle.paper.specs.Line as Line'
use Rattle.paper.specs.WellFormed as WellFormed'
use Rattle.paper.specs.Listing as Listing'
use Rattle.paper.specs.Errors as Errors'
use Rattle.paper.specs.Store as Store'
use Rattle.paper.specs.Calls as Calls'
use Rattle.paper.specs.Direct as Direct'
use Rattle.paper.specs.Batch as Batch'
use Rattle.paper.specs.Examine as Examine'
use Rattle.paper.specs.Files as Files'
use Rattle.paper.specs.Collect as Collect'
use Rattle.paper.specs.Weigh as Weigh'
use Rattle.paper.specs.Hex as Hex'

unfoldable pub all_Bytes : Unit {0}
unfolding Bytes'.bytes Bytes'.digit? Bytes'.letter? Bytes'.letter_or_digit? Bytes'.blank? Bytes'.run Bytes'.same Bytes'.every Bytes'.among Bytes'.joined
all_Bytes = tt

unfoldable pub all_Words : Unit {0}
unfolding Words'.word Words'.statements Words'.read_operators Words'.functions Words'.placed_operators Words'.operators Words'.find_word Words'.found? Words'.word_of Words'.statement_word? Words'.reserved? Words'.word_operator?
all_Words = tt

unfoldable pub all_Tokens : Unit {0}
unfolding Tokens'.out_of_range? Tokens'.by_kind Tokens'.operator_class Tokens'.class Tokens'.found_or Tokens'.read_as Tokens'.as_read
all_Tokens = tt

unfoldable pub all_Constants : Unit {0}
unfolding Constants'.value Constants'.in_range Constants'.powers Constants'.decimal_byte Constants'.five Constants'.six_at Constants'.zero_bytes Constants'.six Constants'.constant_of Constants'.decimal? Constants'.right_constant? Constants'.digits_of Constants'.put_digit Constants'.trimmed Constants'.whole_part Constants'.with_point Constants'.plain_text Constants'.power_text Constants'.power_of_ten_text Constants'.text_of Constants'.constant_text
all_Constants = tt

unfoldable pub all_Names : Unit {0}
unfolding Names'.in_front Names'.names_in Names'.marked Names'.name_bytes Names'.name_end? Names'.name? Names'.less_open Names'.number_of Names'.known? Names'.all_different Names'.sound_names Names'.sound_table Names'.add_name Names'.add_names Names'.value_entries
all_Names = tt

unfoldable pub all_Items : Unit {0}
unfolding Items'.item Items'.statement_or Items'.operator_or Items'.variable_at Items'.name_token Items'.name_at Items'.sign_size Items'.power_size Items'.with_power Items'.number_at Items'.string_byte? Items'.string_at Items'.symbol_or Items'.symbol_at Items'.item_at Items'.size_at Items'.raw_byte? Items'.raw_from Items'.raw_at Items'.opens Items'.scan Items'.items
all_Items = tt

unfoldable pub all_Machine : Unit {0}
unfolding Machine'.row Machine'.no_row Machine'.at_row Machine'.find_row Machine'.step_act Machine'.and_taken Machine'.step Machine'.go_on Machine'.read
all_Machine = tt

unfoldable pub all_Grammar : Unit {0}
unfolding Grammar'.moved Grammar'.given Grammar'.N Grammar'.term Grammar'.a_statement Grammar'.print_list Grammar'.lines_of_statements Grammar'.expressions Grammar'.parts_of_statements Grammar'.grammar Grammar'.may_be_empty Grammar'.look Grammar'.look_item Grammar'.if_in_range Grammar'.look_in_range Grammar'.start
all_Grammar = tt

unfoldable pub all_Line : Unit {0}
unfolding Line'.number_bytes Line'.variable_bytes Line'.own_bytes Line'.begins? Line'.to_next Line'.token_bytes Line'.line_bytes Line'.line_number Line'.lawful_number? Line'.direct_number? Line'.variable_byte? Line'.variable_size Line'.variable_number Line'.variable_name Line'.raw_statement? Line'.tokens_from Line'.line_tokens
all_Line = tt

unfoldable pub all_WellFormed : Unit {0}
unfolding WellFormed'.tokens_of WellFormed'.right_token? WellFormed'.items_of WellFormed'.gives_back? WellFormed'.formed?
all_WellFormed = tt

unfoldable pub all_Listing : Unit {0}
unfolding Listing'.decimal Listing'.operator_text Listing'.token_text Listing'.body_text Listing'.listing_text Listing'.direct_listing Listing'.listing
all_Listing = tt

unfoldable pub all_Errors : Unit {0}
unfolding Errors'.flipped Errors'.marked_at Errors'.error_line Errors'.keepable? Errors'.error_size Errors'.error_text Errors'.error_line? Errors'.listable? Errors'.line_text Errors'.line_listing
all_Errors = tt

unfoldable pub all_Store : Unit {0}
unfolding Store'.lines_from Store'.lines_in Store'.whole_line? Store'.rising_above Store'.rising Store'.sound_lines Store'.greatest_number Store'.room Store'.sound_store Store'.lines_below Store'.lines_not_below Store'.first_is? Store'.stored? Store'.first_line Store'.line_at Store'.lines_above Store'.put_line Store'.take_out Store'.overwritten
all_Store = tt

unfoldable pub all_Calls : Unit {0}
unfolding Calls'.names_of Calls'.lines_of Calls'.sound_tables Calls'.agrees Calls'.sound_state Calls'.refusal Calls'.place_of Calls'.outcome Calls'.translate Calls'.with_names Calls'.stored Calls'.lacks_room Calls'.unless_short Calls'.accept Calls'.answered Calls'.delete Calls'.head_of Calls'.at_head Calls'.enter_sound Calls'.enter Calls'.keep_line Calls'.kept Calls'.enter_with Calls'.not_listed Calls'.listed_if Calls'.list_sound Calls'.list
all_Calls = tt

unfoldable pub all_Direct : Unit {0}
unfolding Direct'.same_buffer Direct'.accept_direct Direct'.answered_direct Direct'.unnumbered? Direct'.typed Direct'.line_in Direct'.show_sound Direct'.show
all_Direct = tt

unfoldable pub all_Batch : Unit {0}
unfolding Batch'.text_lines Batch'.answers_to Batch'.none_refused Batch'.no_lines Batch'.with_answer Batch'.with_answers Batch'.batch
all_Batch = tt

unfoldable pub all_Examine : Unit {0}
unfolding Examine'.first_bad Examine'.examine Examine'.verdict_number Examine'.verdict_line
all_Examine = tt

unfoldable pub all_Files : Unit {0}
unfolding Files'.word_bytes Files'.words_bytes Files'.word_at Files'.end_line Files'.saved_words Files'.saved_block Files'.saved_file Files'.not_saved Files'.too_long? Files'.save Files'.never_fall Files'.direct_whole? Files'.without_direct Files'.parts_of Files'.no_head? Files'.right_words? Files'.sound_parts? Files'.unless_faulty Files'.too_small? Files'.loaded_state Files'.not_loaded Files'.load
all_Files = tt

unfoldable pub all_Collect : Unit {0}
unfolding Collect'.some Collect'.uses? Collect'.line_uses? Collect'.used? Collect'.names_left Collect'.values_left Collect'.renumbered Collect'.collected Collect'.collect
all_Collect = tt

unfoldable pub all_Weigh : Unit {0}
unfolding Weigh'.share Weigh'.shares Weigh'.in_else Weigh'.sum Weigh'.line_variables Weigh'.line_numbers Weigh'.line_strings Weigh'.line_raw Weigh'.line_else Weigh'.no_columns Weigh'.columns_of Weigh'.unweighed Weigh'.weigh Weigh'.field Weigh'.columns_text Weigh'.report_line Weigh'.added_up Weigh'.total_line Weigh'.weigh_found Weigh'.totals Weigh'.named_line Weigh'.report
all_Weigh = tt

unfoldable pub all_Hex : Unit {0}
unfolding Hex'.nibble Hex'.pairs Hex'.hex
all_Hex = tt

unfoldable pub everything : Unit {0}
unfolding all_Bytes all_Words all_Tokens all_Constants all_Names all_Items all_Machine all_Grammar all_Line all_WellFormed all_Listing all_Errors all_Store all_Calls all_Direct all_Batch all_Examine all_Files all_Collect all_Weigh all_Hex
everything = tt
