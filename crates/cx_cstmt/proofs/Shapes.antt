-- What a lexeme is that is taken at a place of a statement.
use Rattle.std.proofs.Common.{◌≡◌, refl}
use Rattle.cx_cword.specs.declared.word.Keyword.TheVariants as k
use Rattle.cx_cword.specs.declared.word.Punctuator.TheVariants as p
use Rattle.cx_cword.specs.declared.lexeme.LexemeKind.{LexemeKind}
use Rattle.cx_cword.specs.declared.lexeme.LexemeKind.TheVariants as l
use Rattle.cx_cstmt.specs.declared.kinds.Head.TheVariants as h
use Rattle.cx_cstmt.specs.declared.kinds.Label.TheVariants as label
use Rattle.cx_cstmt.specs.Kinds.{head_of, label_of}

pub head_block : (kind : LexemeKind) → head_of kind ≡ h.Block → kind ≡ l.Punctuator p.OpenBrace
head_block (l.Punctuator p.OpenBrace) e = refl
head_block (l.Punctuator p.Semicolon) e = absurd cc
head_block (l.Keyword k.If) e = absurd cc
head_block (l.Keyword k.While) e = absurd cc
head_block (l.Keyword k.Do) e = absurd cc
head_block (l.Keyword k.For) e = absurd cc
head_block (l.Keyword k.Switch) e = absurd cc
head_block (l.Keyword k.Break) e = absurd cc
head_block (l.Keyword k.Continue) e = absurd cc
head_block (l.Keyword k.Return) e = absurd cc
head_block _ e = absurd cc

pub head_empty : (kind : LexemeKind) → head_of kind ≡ h.Empty → kind ≡ l.Punctuator p.Semicolon
head_empty (l.Punctuator p.Semicolon) e = refl
head_empty (l.Punctuator p.OpenBrace) e = absurd cc
head_empty (l.Keyword k.If) e = absurd cc
head_empty (l.Keyword k.While) e = absurd cc
head_empty (l.Keyword k.Do) e = absurd cc
head_empty (l.Keyword k.For) e = absurd cc
head_empty (l.Keyword k.Switch) e = absurd cc
head_empty (l.Keyword k.Break) e = absurd cc
head_empty (l.Keyword k.Continue) e = absurd cc
head_empty (l.Keyword k.Return) e = absurd cc
head_empty _ e = absurd cc

pub head_if : (kind : LexemeKind) → head_of kind ≡ h.If → kind ≡ l.Keyword k.If
head_if (l.Keyword k.If) e = refl
head_if (l.Punctuator p.OpenBrace) e = absurd cc
head_if (l.Punctuator p.Semicolon) e = absurd cc
head_if (l.Keyword k.While) e = absurd cc
head_if (l.Keyword k.Do) e = absurd cc
head_if (l.Keyword k.For) e = absurd cc
head_if (l.Keyword k.Switch) e = absurd cc
head_if (l.Keyword k.Break) e = absurd cc
head_if (l.Keyword k.Continue) e = absurd cc
head_if (l.Keyword k.Return) e = absurd cc
head_if _ e = absurd cc

pub head_while : (kind : LexemeKind) → head_of kind ≡ h.While → kind ≡ l.Keyword k.While
head_while (l.Keyword k.While) e = refl
head_while (l.Punctuator p.OpenBrace) e = absurd cc
head_while (l.Punctuator p.Semicolon) e = absurd cc
head_while (l.Keyword k.If) e = absurd cc
head_while (l.Keyword k.Do) e = absurd cc
head_while (l.Keyword k.For) e = absurd cc
head_while (l.Keyword k.Switch) e = absurd cc
head_while (l.Keyword k.Break) e = absurd cc
head_while (l.Keyword k.Continue) e = absurd cc
head_while (l.Keyword k.Return) e = absurd cc
head_while _ e = absurd cc

pub head_do : (kind : LexemeKind) → head_of kind ≡ h.Do → kind ≡ l.Keyword k.Do
head_do (l.Keyword k.Do) e = refl
head_do (l.Punctuator p.OpenBrace) e = absurd cc
head_do (l.Punctuator p.Semicolon) e = absurd cc
head_do (l.Keyword k.If) e = absurd cc
head_do (l.Keyword k.While) e = absurd cc
head_do (l.Keyword k.For) e = absurd cc
head_do (l.Keyword k.Switch) e = absurd cc
head_do (l.Keyword k.Break) e = absurd cc
head_do (l.Keyword k.Continue) e = absurd cc
head_do (l.Keyword k.Return) e = absurd cc
head_do _ e = absurd cc

pub head_for : (kind : LexemeKind) → head_of kind ≡ h.For → kind ≡ l.Keyword k.For
head_for (l.Keyword k.For) e = refl
head_for (l.Punctuator p.OpenBrace) e = absurd cc
head_for (l.Punctuator p.Semicolon) e = absurd cc
head_for (l.Keyword k.If) e = absurd cc
head_for (l.Keyword k.While) e = absurd cc
head_for (l.Keyword k.Do) e = absurd cc
head_for (l.Keyword k.Switch) e = absurd cc
head_for (l.Keyword k.Break) e = absurd cc
head_for (l.Keyword k.Continue) e = absurd cc
head_for (l.Keyword k.Return) e = absurd cc
head_for _ e = absurd cc

pub head_switch : (kind : LexemeKind) → head_of kind ≡ h.Switch → kind ≡ l.Keyword k.Switch
head_switch (l.Keyword k.Switch) e = refl
head_switch (l.Punctuator p.OpenBrace) e = absurd cc
head_switch (l.Punctuator p.Semicolon) e = absurd cc
head_switch (l.Keyword k.If) e = absurd cc
head_switch (l.Keyword k.While) e = absurd cc
head_switch (l.Keyword k.Do) e = absurd cc
head_switch (l.Keyword k.For) e = absurd cc
head_switch (l.Keyword k.Break) e = absurd cc
head_switch (l.Keyword k.Continue) e = absurd cc
head_switch (l.Keyword k.Return) e = absurd cc
head_switch _ e = absurd cc

pub head_break : (kind : LexemeKind) → head_of kind ≡ h.Break → kind ≡ l.Keyword k.Break
head_break (l.Keyword k.Break) e = refl
head_break (l.Punctuator p.OpenBrace) e = absurd cc
head_break (l.Punctuator p.Semicolon) e = absurd cc
head_break (l.Keyword k.If) e = absurd cc
head_break (l.Keyword k.While) e = absurd cc
head_break (l.Keyword k.Do) e = absurd cc
head_break (l.Keyword k.For) e = absurd cc
head_break (l.Keyword k.Switch) e = absurd cc
head_break (l.Keyword k.Continue) e = absurd cc
head_break (l.Keyword k.Return) e = absurd cc
head_break _ e = absurd cc

pub head_continue : (kind : LexemeKind) → head_of kind ≡ h.Continue → kind ≡ l.Keyword k.Continue
head_continue (l.Keyword k.Continue) e = refl
head_continue (l.Punctuator p.OpenBrace) e = absurd cc
head_continue (l.Punctuator p.Semicolon) e = absurd cc
head_continue (l.Keyword k.If) e = absurd cc
head_continue (l.Keyword k.While) e = absurd cc
head_continue (l.Keyword k.Do) e = absurd cc
head_continue (l.Keyword k.For) e = absurd cc
head_continue (l.Keyword k.Switch) e = absurd cc
head_continue (l.Keyword k.Break) e = absurd cc
head_continue (l.Keyword k.Return) e = absurd cc
head_continue _ e = absurd cc

pub head_return : (kind : LexemeKind) → head_of kind ≡ h.Return → kind ≡ l.Keyword k.Return
head_return (l.Keyword k.Return) e = refl
head_return (l.Punctuator p.OpenBrace) e = absurd cc
head_return (l.Punctuator p.Semicolon) e = absurd cc
head_return (l.Keyword k.If) e = absurd cc
head_return (l.Keyword k.While) e = absurd cc
head_return (l.Keyword k.Do) e = absurd cc
head_return (l.Keyword k.For) e = absurd cc
head_return (l.Keyword k.Switch) e = absurd cc
head_return (l.Keyword k.Break) e = absurd cc
head_return (l.Keyword k.Continue) e = absurd cc
head_return _ e = absurd cc

pub label_case : (kind : LexemeKind) → label_of kind ≡ label.Case → kind ≡ l.Keyword k.Case
label_case (l.Keyword k.Case) e = refl
label_case (l.Keyword k.Default) e = absurd cc
label_case _ e = absurd cc

pub label_default : (kind : LexemeKind) → label_of kind ≡ label.Default → kind ≡ l.Keyword k.Default
label_default (l.Keyword k.Default) e = refl
label_default (l.Keyword k.Case) e = absurd cc
label_default _ e = absurd cc
