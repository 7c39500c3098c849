-- The reading of a few texts.
use Rattle.std.proofs.Common.{◌≡◌, [], ◌∷◌, Some, None, refl, codes}
use Rattle.std.proofs.Math.Nat.{le-max_left}
use Rattle.cx_form.specs.declared.tree.ValueType.TheVariants as value
use Rattle.cx_form.specs.declared.tree.Statement.TheVariants.{Load, Store}
use Rattle.cx_form.specs.declared.tree.CFile.{CFile}
use Rattle.cx_form.specs.declared.tree.Argument.TheVariants as argument
use Rattle.cx_form.specs.Tokens.{is_blank, starts_name, is_digit, goes_on, is_mark, token_len, word_at, tokens_from}
use Rattle.cx_form.specs.Grammar.{reserved, gnu_words}
use Rattle.cx_form.specs.Rules.{is_struct, is_statement, returns, is_function, is_c_form, are_in_order, is_region, are_both_void, are_agreed, are_both, is_type_form}
use Rattle.cx_form.specs.Reading.{many_from, type_at, member_at, members_at, struct_at, structs_at, result_at, parameter_at, more_parameters_at, parameters_at, load_at, store_at, tail_at, statement_at, statements_at, returned_at, return_at, ending_at, block_at, function_at, c_file_at, argument_at, held_at, cell_at, cells_at, region_at, regions_at, more_arguments_at, arguments_at, answer_at, function_type_at, type_file_at, c_file_of, type_file_of}

nothing_is_a_c_file : c_file_of [] ≡ Some (record { structs = []; function = None })
unfolding c_file_of c_file_at structs_at many_from is_c_form tokens_from
nothing_is_a_c_file = refl

an_object_is_none : c_file_of (codes "int x;") ≡ None
unfolding c_file_of c_file_at structs_at many_from is_c_form tokens_from token_len is_blank starts_name is_digit goes_on is_mark function_at result_at type_at
an_object_is_none = refl

abbrev vec : CFile
vec = record {
  structs = record { name = word_at 7 (codes "vec"); members = record { ctype = value.UnsignedLong; name = word_at 27 (codes "len") } ∷ record { ctype = value.Pointer (word_at 39 (codes "vec")); name = word_at 44 (codes "next") } ∷ [] } ∷ [];
  function = Some (record {
    result = Some value.UnsignedLong;
    name = word_at 67 (codes "step");
    parameters = record { ctype = value.Pointer (word_at 79 (codes "vec")); name = word_at 84 (codes "p") } ∷ record { ctype = value.Pointer (word_at 94 (codes "vec")); name = word_at 99 (codes "q") } ∷ record { ctype = value.UnsignedLong; name = word_at 116 (codes "x") } ∷ [];
    body = Load (word_at 123 (codes "q")) (word_at 127 (codes "p")) (word_at 130 (codes "next")) ∷ Store (word_at 138 (codes "p")) (word_at 141 (codes "len")) (word_at 147 (codes "x")) ∷ Load (word_at 152 (codes "x")) (word_at 156 (codes "q")) (word_at 159 (codes "len")) ∷ [];
    ending = Some (record { span = record { first = 166; past = 175; ordered = le-max_left 166 175 }; value = Some (word_at 173 (codes "x")) });
  });
}

step_is_a_c_file :
    c_file_of (codes "struct vec { unsigned long len; struct vec *next; }; unsigned long step(struct vec *p, struct vec *q, unsigned long x) {   q = p->next;   p->len = x;   x = q->len;   return x; }") ≡ Some vec
unfolding c_file_of c_file_at structs_at many_from tokens_from token_len is_blank starts_name is_digit goes_on is_mark reserved gnu_words struct_at members_at member_at type_at function_at result_at parameter_at more_parameters_at parameters_at load_at store_at tail_at statement_at statements_at returned_at return_at ending_at block_at is_c_form is_struct is_statement returns is_function
step_is_a_c_file = refl

step_is_a_type_file :
    type_file_of (codes "region vec = struct vec { len: any8; next: ptr vec; }; fn step(ptr vec, any, any) -> any;") vec ≡ Some (record {
      regions = record { name = word_at 7 (codes "vec"); tag = word_at 20 (codes "vec"); cells = record { member = word_at 26 (codes "len"); holds = argument.Any } ∷ record { member = word_at 37 (codes "next"); holds = argument.Pointer (word_at 47 (codes "vec")) } ∷ [] } ∷ [];
      function = Some (record { name = word_at 58 (codes "step"); arguments = argument.Pointer (word_at 67 (codes "vec")) ∷ argument.Any ∷ argument.Any ∷ []; result = Some argument.Any });
    })
unfolding type_file_of type_file_at regions_at many_from tokens_from token_len is_blank starts_name is_digit goes_on is_mark reserved gnu_words region_at cells_at cell_at held_at argument_at function_type_at more_arguments_at arguments_at answer_at is_type_form is_region are_in_order are_both_void are_agreed are_both
step_is_a_type_file = refl
