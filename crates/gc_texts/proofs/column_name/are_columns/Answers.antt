use Rattle.gc_texts.proofs.Common.{◌<◌, length, sym, arith}
use Rattle.gc_texts.proofs.ColumnSteps.{column_test, named_test, no_column, named_twice, one_column}
use Rattle.gc_texts.proofs.column_name.are_columns.Goals as goal

pub returns-then-not-is_column : goal.returns-then-not-is_column
returns-then-not-is_column c =
    let fields = c.args.fields.now in
    let d = c.index-fields-k.result in
    let below : c.loop-k.k < length fields = omega arith in
    sym (no_column fields c.loop-k.k d c.loop-k.invariant below c.is_column.result c.is_column.result (column_test fields c.loop-k.k d c.index-fields-k.is c.is_column.result c.is_column.ensures) c.if-not-is_column.true)

pub returns-then-is_named : goal.returns-then-is_named
returns-then-is_named c =
    let fields = c.args.fields.now in
    let d = c.index-fields-k.result in
    let below : c.loop-k.k < length fields = omega arith in
    sym (named_twice fields c.loop-k.k d c.loop-k.invariant below c.is_column.result c.is_named.result (column_test fields c.loop-k.k d c.index-fields-k.is c.is_column.result c.is_column.ensures)
    c.if-not-is_column.false
    (named_test fields c.loop-k.k d c.index-fields-k.is c.as_slice.result.now c.is_named.result c.as_slice.ensures.value c.is_named.ensures) c.if-is_named.true)

pub loop-k-preserved : goal.loop-k-preserved
loop-k-preserved c =
    let fields = c.args.fields.now in
    let d = c.index-fields-k.result in
    let below : c.loop-k.k < length fields = omega arith in
    one_column fields c.loop-k.k d c.loop-k.invariant below c.is_column.result c.is_named.result (column_test fields c.loop-k.k d c.index-fields-k.is c.is_column.result c.is_column.ensures)
    c.if-not-is_column.false
    (named_test fields c.loop-k.k d c.index-fields-k.is c.as_slice.result.now c.is_named.result c.as_slice.ensures.value c.is_named.ensures) c.if-is_named.false
