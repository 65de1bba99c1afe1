use Rattle.gc_texts.proofs.trouble.Trouble.tell_field.Goals as goal

pub returns-in-Parameters : goal.returns-in-Parameters
returns-in-Parameters g c = rw c.in-Parameters.is c.writeln-in-Parameters.ensures.bytes

pub returns-in-RawParameters : goal.returns-in-RawParameters
returns-in-RawParameters g c = rw c.in-RawParameters.is c.writeln-in-RawParameters.ensures.bytes

pub returns-in-CommandForm : goal.returns-in-CommandForm
returns-in-CommandForm g c = rw c.in-CommandForm.is c.writeln-in-CommandForm.ensures.bytes

pub returns-in-ForStation : goal.returns-in-ForStation
returns-in-ForStation g c = rw c.in-ForStation.is c.writeln-in-ForStation.ensures.bytes

pub returns-in-ByteOrderMark : goal.returns-in-ByteOrderMark
returns-in-ByteOrderMark g c = rw c.in-ByteOrderMark.is c.writeln-in-ByteOrderMark.ensures.bytes

pub returns-in-Utf16 : goal.returns-in-Utf16
returns-in-Utf16 g c = rw c.in-Utf16.is c.writeln-in-Utf16.ensures.bytes
